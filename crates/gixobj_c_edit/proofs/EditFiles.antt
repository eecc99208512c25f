-- The files of the roots that a run's writes emit; the proof of `edited` uses it.
use Rattle.std.proofs.Common.{◌≡◌, ◌<◌, ◌∷◌, ◌++◌, ◌∙◌, List, [], ℕ, ap, arith, length, refl, subst, suc, sym, take, zero}
use Rattle.std.proofs.lemmas.List.{take-append-le}
use Rattle.std.proofs.lemmas.List.Elements.{All-take, recursion_from_All}
use Rattle.std.proofs.Math.Seq.{take-append_seam}
use Rattle.std.specs.List.{flat_map}
use Rattle.std.specs.Prelude.{Some, map}
use Rattle.gixobj_editor_write.specs.declared.write.Written.{Written}
use Rattle.gixobj_c_edit.specs.Edits.{AreEncodableIfDone, HasFilesAfter, HasFilesOfWrites, HasRun, IsCommandsOf, IsEdited, IsEmitted, IsStart, command_steps}
use Rattle.gixobj_c_edit.specs.Edits.{write_of_root}
use Rattle.gixobj_c_edit.specs.Replies.{AreDone, EndsInWrite}
use Rattle.gixobj_c_edit.proofs.EditRuns.{IsDone, ends_in_write, lengths_before_last, run_encodable, steps_of_prefix}
use Rattle.gixobj_editor.specs.Commands.{written_at, written_by}
use Rattle.gixobj_editor.specs.Replies.{IsRun}
use Rattle.gixobj_editor.specs.RunTables.{AgreesWithRun}
use Rattle.gixobj_editor_commands.specs.Views.{command_view}
use Rattle.gixobj_editor_commands.specs.declared.command.Command.{Command}
use Rattle.gixobj_editor.specs.declared.reply.EditReply.TheVariants as edit_reply
use Rattle.gixobj_editor.specs.declared.reply.Reply.{Reply}
use Rattle.gixobj_editor.specs.declared.reply.Reply.TheVariants as reply
use Rattle.gixobj_streams.specs.declared.encode.Error.{Error}
use Rattle.gixobj_editor_files.proofs.EditedFiles.{same_files_trans}
use Rattle.gixobj_editor_files.proofs.Histories.{history_congruent}
use Rattle.gixobj_editor_files.specs.Files.{Files, NamedFiles, SameFiles, Table}
use Rattle.gixobj_editor_files.specs.History.{FilesAfter, Step}
use Rattle.gixobj_editor_files.specs.State.{EditorFiles, State}
use Rattle.gixobj_editor_files.specs.Tables.{AgreesWithPairs}
use Rattle.gixobj_hash.specs.declared.hash.kind.Kind.{Kind}
use Rattle.gixobj_store_keep.specs.Memory.{memory_objects}
use Rattle.gixobj_store_keep.specs.declared.memory.Memory.{Memory}
use Rattle.gixobj_cli_edit.specs.Edits.{memory_model}
use Rattle.gixobj_store.specs.Stores.{Objects}
use Rattle.gixobj_tree.specs.TreeEncoding.{IsDigestResult}

-- ---- replies before the last

written_at_last : (replies : List (Reply Error)) (last : Reply Error) → written_at (replies ++ last ∷ []) (length replies) ≡ written_by last
written_at_last [] last = refl
written_at_last (first ∷ replies) last = written_at_last replies last

written_at_append : (replies rest : List (Reply Error)) (k : ℕ) (it : Written) → written_at replies k ≡ Some it → written_at (replies ++ rest) k ≡ Some it
written_at_append [] rest k it is = absurd (cc is)
written_at_append (first ∷ replies) rest zero it is = is
written_at_append (first ∷ replies) rest (suc k) it is = written_at_append replies rest k it is

written_at_lt : (replies : List (Reply Error)) (k : ℕ) (it : Written) → written_at replies k ≡ Some it → k < length replies
written_at_lt [] k it is = absurd (cc is)
written_at_lt (first ∷ replies) zero it is = omega arith
written_at_lt (first ∷ replies) (suc k) it is = let less = written_at_lt replies k it is in omega (arith, less)

-- ---- files

module _ (hash : Kind) (state : State Memory) (trees root : List ℕ) (lossy : Objects) (start : IsStart hash trees root lossy state) (commands : List Command)
    (all : List (Reply Error))
    (ran : HasRun hash state commands all) (files : HasFilesOfWrites state commands all) where
  -- a written root has the files that the commands before it make, if they are done
  pub files_of_write : (T : Table) (k : ℕ) (it : Written) → written_at all k ≡ Some it → AreDone (take k all)
      → AgreesWithRun T start.objects (take k all) → AgreesWithPairs T it.trees.items
      → HasFilesAfter T (take k commands) start.entries it.id
  files_of_write T k it is done agrees pairs n =
      let own : AgreesWithRun T (memory_objects state.store) (take k all) =
      subst (λ (objects : Objects). AgreesWithRun T objects (take k all))
      (sym (ap (λ (s : State Memory). memory_objects s.store) start.state_is ∙ start.holds)) agrees in
      let steps = steps_of_prefix memory_model (IsDigestResult hash) k state ran.0 commands all ran.1
      (recursion_from_All IsDone (take k all) done) in
      let its_steps : List Step = flat_map command_steps (map command_view (take k commands)) in
      let named : SameFiles (NamedFiles T n it.id) (FilesAfter T n its_steps (EditorFiles T n state)) =
      subst (λ (them : List Step). SameFiles (NamedFiles T n it.id) (FilesAfter T n them (EditorFiles T n state))) steps
      (files T n k it is own pairs (start.has_bases T)) in
      same_files_trans (NamedFiles T n it.id) (FilesAfter T n its_steps (EditorFiles T n state)) (FilesAfter T n its_steps (Files T n start.entries)) named
      (history_congruent T n its_steps (EditorFiles T n state) (Files T n start.entries) (start.files T n))

module _ (hash : Kind) (state : State Memory) (trees root : List ℕ) (lossy : Objects) (start : IsStart hash trees root lossy state) (commands : List Command)
    (replies : List (Reply Error)) (written : Written)
    (ran : HasRun hash state (commands ++ write_of_root ∷ []) (replies ++ reply.Edit (edit_reply.Written written) ∷ []))
    (files : HasFilesOfWrites state (commands ++ write_of_root ∷ []) (replies ++ reply.Edit (edit_reply.Written written) ∷ []))
    (done : AreDone replies) where
  abbrev last : List (Reply Error)
  last = reply.Edit (edit_reply.Written written) ∷ []

  same_lengths : length commands ≡ length replies
  same_lengths = lengths_before_last memory_model (IsDigestResult hash) state ran.0 commands write_of_root replies
      (reply.Edit (edit_reply.Written written)) ran.1

  -- the write with number k, whose replies before it are these
  files_at : (T : Table) (k : ℕ) (it : Written) (before : List (Reply Error)) (some : List Command) → written_at (replies ++ last) k ≡ Some it
      → take k (replies ++ last) ≡ before → take k (commands ++ write_of_root ∷ []) ≡ some → AreDone before
      → AgreesWithRun T start.objects before → AgreesWithPairs T it.trees.items → HasFilesAfter T some start.entries it.id
  files_at T k it before some is same_replies same_commands are agrees pairs =
      subst (λ (them : List Command). HasFilesAfter T them start.entries it.id) same_commands
      (files_of_write hash state trees root lossy start (commands ++ write_of_root ∷ []) (replies ++ last) ran files T k it is
      (subst AreDone (sym same_replies) are)
      (subst (AgreesWithRun T start.objects) (sym same_replies) agrees) pairs)

  pub files_of_last : (T : Table) → AgreesWithRun T start.objects replies → AgreesWithPairs T written.trees.items
      → HasFilesAfter T commands start.entries written.id
  files_of_last T agrees pairs =
      let its_commands : take (length replies) (commands ++ write_of_root ∷ []) ≡ commands =
      ap (λ (k : ℕ). take k (commands ++ write_of_root ∷ [])) (sym same_lengths) ∙ take-append_seam commands (write_of_root ∷ []) in
      files_at T (length replies) written replies commands (written_at_last replies (reply.Edit (edit_reply.Written written)))
      (take-append_seam replies last) its_commands done agrees pairs

  pub files_of_earlier : (T : Table) (k : ℕ) (it : Written) → written_at replies k ≡ Some it
      → AgreesWithRun T start.objects (take k replies) → AgreesWithPairs T it.trees.items
      → HasFilesAfter T (take k commands) start.entries it.id
  files_of_earlier T k it is agrees pairs =
      let less = written_at_lt replies k it is in
      files_at T k it (take k replies) (take k commands) (written_at_append replies last k it is) (take-append-le k replies last (omega (arith, less)))
      (take-append-le k commands (write_of_root ∷ []) (omega (arith, less, same_lengths))) (All-take IsDone k replies done) agrees pairs

-- ---- the call

pub is_edited : (hash : Kind) (trees root script : List ℕ) (lossy : Objects) (state : State Memory) (all_commands : List Command)
    (all : List (Reply Error)) (frames id : List ℕ)
    → IsCommandsOf hash script all_commands → IsStart hash trees root lossy state → HasRun hash state all_commands all → HasFilesOfWrites state all_commands all
    → IsEmitted hash all frames id → IsEdited hash trees root script frames id
is_edited hash trees root script lossy state all_commands all frames id (commands, joined, decodes) start ran files emitted =
    let ran_joined : HasRun hash state (commands ++ write_of_root ∷ []) all =
    subst (λ (them : List Command). HasRun hash state them all) joined ran in
    let its_run = subst (HasRun hash state (commands ++ write_of_root ∷ [])) emitted.joined ran_joined in
    let its_files = subst (HasFilesOfWrites state (commands ++ write_of_root ∷ [])) emitted.joined
    (subst (λ (them : List Command). HasFilesOfWrites state them all) joined files) in
    record {
      all = all;
      lossy = lossy;
      run = record { commands = commands; decodes = decodes; state = state; start = start; ran = ran_joined };
      emitted = emitted;
      files = files_of_last hash state trees root lossy start commands emitted.replies emitted.written its_run its_files emitted.done;
      earlier = files_of_earlier hash state trees root lossy start commands emitted.replies emitted.written its_run its_files emitted.done;
    }

pub all_ends_in_write : (hash : Kind) (script : List ℕ) (state : State Memory) (all_commands : List Command) (all : List (Reply Error))
    → IsCommandsOf hash script all_commands → HasRun hash state all_commands all → EndsInWrite all
all_ends_in_write hash script state all_commands all (commands, joined, decodes) (new, ran) =
    ends_in_write memory_model (IsDigestResult hash) state new commands all
    (subst (λ (them : List Command). IsRun memory_model (IsDigestResult hash) state them all new) joined ran)

pub all_encodable : (hash : Kind) (state : State Memory) (all_commands : List Command) (all : List (Reply Error)) → HasRun hash state all_commands all
    → AreEncodableIfDone all
all_encodable hash state all_commands all (new, ran) done =
    run_encodable memory_model (IsDigestResult hash) state new all_commands all ran (recursion_from_All IsDone all done)
