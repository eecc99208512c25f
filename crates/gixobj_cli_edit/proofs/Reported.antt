-- A script that was run on a new editor, and its report.
use Rattle.std.proofs.Common.{Err, List, Ok, Result, ℕ}
use Rattle.std.specs.Fn.{FnReturnsAt, Shared}
use Rattle.std.specs.Prelude.{IfOk}
use Rattle.std.specs.declared.alloc.Global.{Global}
use Rattle.std.specs.declared.vec.Vec.{Vec}
use denote.Ref.{Bor}
use Rattle.gixobj_editor_files.specs.State.{State}
use Rattle.gixobj_hash.specs.declared.hash.kind.Kind as hash
use Rattle.gixobj_hash.specs.declared.hash.object_id.ObjectId.{ObjectId}
use Rattle.gixobj_streams.specs.declared.encode.Error.{Error}
use Rattle.gixobj_store_keep.specs.declared.memory.Memory.{Memory}
use Rattle.gixobj_tree_entries.specs.Entries.{EntryView}
use Rattle.gixobj_tree.specs.TreeEncoding.{IsDigestResult}
use Rattle.gixobj_cli_edit.specs.Edits.{IsEdit, IsNewEditor, IsReported, memory_model}
use Rattle.gixobj_editor_commands.specs.declared.script.ScriptError.{ScriptError}
use Rattle.gixobj_cli_edit.proofs.WiderRelations.{run_wider}

-- the report of a run is that of `edit` if the closure returns digests only
pub is_edit_of_report : {F : Type 0} (of : Shared F (Bor (List EntryView) × Unit {0}) (Result ObjectId Error)) (out : F) (hash : hash.Kind) (script : List ℕ)
    (old new : State Memory) (result : Result (Vec ℕ Global) ScriptError)
    → ((tree : List EntryView) (answer : Result ObjectId Error) → FnReturnsAt of out tree answer → IsDigestResult hash tree answer)
    → IsNewEditor hash old
    → IfOk result (λ bytes. IsReported memory_model (λ tree answer. FnReturnsAt of out tree answer) hash script old bytes.items new)
    → IfOk result (λ bytes. IsEdit hash script bytes.items)
is_edit_of_report of out hash script old new (Ok bytes) within begun seen = record {
  old = old;
  new = new;
  begun = begun;
  yielded = record {
    commands = seen.commands;
    replies = seen.replies;
    decodes = seen.decodes;
    ran = run_wider memory_model (λ tree answer. FnReturnsAt of out tree answer) (IsDigestResult hash) within old new seen.commands seen.replies seen.ran;
    yields = seen.yields;
  };
}
is_edit_of_report of out hash script old new (Err error) within begun seen = tt
