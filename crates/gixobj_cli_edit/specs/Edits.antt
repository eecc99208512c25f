-- Runs of scripts on an editor, and their reports.
use Rattle.std.specs.Prelude.{◌≡◌, ◌⊎◌, ◌∷◌, ◌++◌, ℕ, false, List, Option, [], map}
use Rattle.std.specs.declared.alloc.Global.{Global}
use Rattle.std.specs.declared.vec.Vec.{Vec}
use Rattle.std.specs.FinMap as finite
use Rattle.gixobj_editor_commands.specs.Views.{CommandView, command_view}
use Rattle.gixobj_editor_commands.specs.declared.command.Command.{Command}
use Rattle.gixobj_store.specs.Stores.{StoreModel}
use Rattle.gixobj_tree.specs.TreeEncoding.{IsDigestResult}
use Rattle.gixobj_cli_edit.specs.Reporting.{AreLinesOf, report_lines_of}
use Rattle.gixobj_editor_files.specs.State.{State, new_state}
use Rattle.gixobj_hash.specs.declared.hash.kind.Kind as hash
use Rattle.gixobj_editor.specs.Replies.{Answers, IsReply, IsRun}
use Rattle.gixobj_editor.specs.declared.reply.Reply.{Reply}
use Rattle.gixobj_editor_commands.specs.Scripts.{IsFirstBad, IsScript, IsScriptParseError}
use Rattle.gixobj_editor_commands.specs.declared.script.ScriptError.{ScriptError}
use Rattle.gixobj_editor_commands.specs.declared.script.ScriptError.TheVariants as script
use Rattle.gixobj_store_keep.specs.Memory.{memory_objects}
use Rattle.gixobj_store_keep.specs.declared.memory.Memory.{Memory}

-- the script decodes to commands, which run from the old state to the new one; the bytes report the replies to them and
-- then the lookups
pub record IsReported {S E : Type 0} (model : StoreModel S) (answers : Answers E) (hash : hash.Kind) (script : List ℕ)
    (old : State S) (bytes : List ℕ) (new : State S) : Type 0 where
  pub commands : List Command
  pub replies : List (Reply E)
  pub decodes : IsScript hash script (map command_view commands)
  pub ran : IsRun model answers old commands replies new
  pub yields : bytes ≡ report_lines_of replies new.lookups

-- the script decodes to commands, which run from the old state to the new one
pub record WasRun {S E : Type 0} (model : StoreModel S) (answers : Answers E) (hash : hash.Kind) (script : List ℕ)
    (old new : State S) : Type 0 where
  pub commands : List Command
  pub replies : List (Reply E)
  pub decodes : IsScript hash script (map command_view commands)
  pub ran : IsRun model answers old commands replies new

-- the command gets a reply; if the lines before report some replies, the lines after it report these and its own
abbrev pub IsCommandReported : {S E : Type 0} → StoreModel S → Answers E → State S → Command → Option (Vec ℕ Global)
    → Option (Vec ℕ Global) → State S → Type 0
IsCommandReported {S} {E} model answers old command lines lines' new = (its_reply : Reply E)
    × IsReply model answers old command its_reply new
    × ((before : List (Reply E)) → AreLinesOf lines before → AreLinesOf lines' (before ++ its_reply ∷ []))

-- the model of the store in memory: no lookup fails, except for memory
abbrev pub memory_model : StoreModel Memory
memory_model = record { objects = memory_objects; may_fail = λ store id. false }

-- a new editor on the empty root, over an empty store, with ids of this hash kind
pub record IsNewEditor (hash : hash.Kind) (state : State Memory) : Type 0 where
  pub store : Memory
  pub nothing : memory_objects store ≡ finite.empty
  pub is_new : state ≡ new_state [] store hash

-- the bytes report a run of the script on a new editor
pub record IsEdit (hash : hash.Kind) (script bytes : List ℕ) : Type 0 where
  pub old : State Memory
  pub new : State Memory
  pub begun : IsNewEditor hash old
  pub yielded : IsReported memory_model (IsDigestResult hash) hash script old bytes new

-- the error of a run: the first bad line; or out of memory, for a command before any bad line, or if no line is bad
abbrev pub IsScriptRunError : hash.Kind → List ℕ → ScriptError → Type 0
IsScriptRunError hash bytes (script.BadLine number) = IsFirstBad hash bytes number
IsScriptRunError hash bytes script.OutOfMemory = IsScriptParseError hash bytes script.OutOfMemory
    ⊎ ((commands : List CommandView) × IsScript hash bytes commands)
