-- Runs whose replies are reported one at a time: `edit_on` uses them.
use Rattle.std.proofs.Common.{◌≡◌, ◌⊎◌, ◌∷◌, [], ◌++◌, List, OnErr, Option, Result, Some, inr, Vec, ap, append-nil, append_assoc, arith, length, map, refl, sym}
use Rattle.std.proofs.Common.{◌∙◌, ℕ}
use Rattle.std.specs.declared.alloc.Global.{Global}
use Rattle.gixobj_editor.specs.Replies.{Answers, IsRun}
use Rattle.gixobj_editor_commands.specs.Views.{command_view}
use Rattle.gixobj_editor_commands.specs.declared.command.Command.{Command}
use Rattle.gixobj_editor.specs.declared.reply.Reply.{Reply}
use Rattle.gixobj_editor_files.proofs.WrittenTrees.{on_err_of}
use Rattle.gixobj_editor_files.specs.State.{State}
use Rattle.gixobj_hash.specs.declared.hash.kind.Kind as hash
use Rattle.gixobj_store.specs.Stores.{StoreModel}
use Rattle.gixobj_cli_edit.specs.Edits.{IsCommandReported, IsReported, WasRun}
use Rattle.gixobj_cli_edit.specs.Reporting.{AreLinesOf, lookups_line, report_lines_of}
use Rattle.gixobj_editor_commands.specs.Scripts.{IsScript}
use Rattle.gixobj_editor_commands.specs.declared.script.ScriptError.{ScriptError}

nil_of_len_zero : {X : Type 0} (xs : List X) → length xs ≡ 0 → xs ≡ []
nil_of_len_zero [] e = refl
nil_of_len_zero (x ∷ xs) e = absurd (omega arith)

module _ {S E : Type 0} (model : StoreModel S) (answers : Answers E) where
  -- there are replies to the commands so far, whose lines these are; with replies to the remaining commands they are
  -- replies to all commands
  pub record IsRunSoFar (first now : State S) (all rest : List Command) (lines : Option (Vec ℕ Global)) : Type 0 where
    pub seen : List (Reply E)
    pub so_far : (later : List (Reply E)) (new : State S) → IsRun model answers now rest later new → IsRun model answers first all (seen ++ later) new
    pub reported : AreLinesOf lines seen

  pub is_run_so_far_of_nothing : (first : State S) (all rest : List Command) (lines : Vec ℕ Global) → lines.items ≡ [] → rest ≡ all
      → IsRunSoFar first first all rest (Some lines)
  is_run_so_far_of_nothing first all rest lines none same =
      record { seen = []; so_far = λ later new is. rw (sym same) is; reported = none }

  pub is_run_so_far_of_step : (first old new : State S) (command : Command) (all rest commands : List Command) (lines lines' : Option (Vec ℕ Global))
      → IsCommandReported model answers old command lines lines' new → rest ≡ command ∷ commands → IsRunSoFar first old all rest lines
      → IsRunSoFar first new all commands lines'
  is_run_so_far_of_step first old new command all rest commands lines lines' (reply, one, adds) is run = record {
    seen = run.seen ++ reply ∷ [];
    so_far = λ replies last later. rw append_assoc (run.so_far (reply ∷ replies) last (rw is (new, one, later)));
    reported = adds run.seen run.reported;
  }

  is_run_of_so_far : (first now : State S) (all rest : List Command) (lines : Option (Vec ℕ Global)) → length rest ≡ 0
      → (run : IsRunSoFar first now all rest lines) → IsRun model answers first all run.seen now
  is_run_of_so_far first now all rest lines none run = rw append-nil at (run.so_far [] now (rw (nil_of_len_zero rest none) refl))

  was_run_of_so_far : (hash : hash.Kind) (script : List ℕ) (first now : State S) (all rest commands : List Command) (lines : Option (Vec ℕ Global))
      → IsScript hash script (map command_view commands) → all ≡ commands → length rest ≡ 0 → IsRunSoFar first now all rest lines
      → WasRun {E = E} model answers hash script first now
  was_run_of_so_far hash script first now all rest commands lines decodes same none run = record {
    commands = commands;
    replies = run.seen;
    decodes = decodes;
    ran = rw same at (is_run_of_so_far first now all rest lines none run);
  }

  pub after_error_of_so_far : (hash : hash.Kind) (script : List ℕ) (first now : State S) (all rest commands : List Command) (lines : Option (Vec ℕ Global))
      (result : Result (Vec ℕ Global) ScriptError) → IsScript hash script (map command_view commands) → all ≡ commands → length rest ≡ 0
      → IsRunSoFar first now all rest lines → OnErr result ((now ≡ first) ⊎ WasRun {E = E} model answers hash script first now)
  after_error_of_so_far hash script first now all rest commands lines result decodes same none run =
      on_err_of result _ (inr (was_run_of_so_far hash script first now all rest commands lines decodes same none run))

  pub is_reported_of_so_far : (hash : hash.Kind) (script : List ℕ) (first now : State S) (all rest commands : List Command) (lines : Vec ℕ Global)
      (bytes : List ℕ) (lookups : ℕ) → IsScript hash script (map command_view commands) → all ≡ commands → length rest ≡ 0
      → IsRunSoFar first now all rest (Some lines) → bytes ≡ lines.items ++ lookups_line lookups → lookups ≡ now.lookups
      → IsReported {E = E} model answers hash script first bytes now
  is_reported_of_so_far hash script first now all rest commands lines bytes lookups decodes same none run is number = record {
    commands = commands;
    replies = run.seen;
    decodes = decodes;
    ran = rw same at (is_run_of_so_far first now all rest (Some lines) none run);
    yields = is ∙ (ap (λ (l : List ℕ). l ++ lookups_line lookups) run.reported ∙ ap (λ (n : ℕ). report_lines_of run.seen n) number);
  }
