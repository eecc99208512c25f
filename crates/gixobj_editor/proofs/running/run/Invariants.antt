use Rattle.std.proofs.Common.{Result, ◌≡◌, ◌+◌, ◌≤◌, ◌++◌, List, length, vec_len, vec_capacity}
use Rattle.std.specs.Fn.{FnReturnsAt}
use Rattle.std.specs.Vec.Iter.{into_iter_items}
use Rattle.gixobj_editor_files.specs.State.{State}
use Rattle.gixobj_hash.specs.declared.hash.object_id.ObjectId.{ObjectId}
use Rattle.gixobj_store.specs.Stores.{StoreModel}
use Rattle.gixobj_tree_entries.specs.Entries.{EntryView}
use Rattle.gixobj_editor.specs.Causes.{HaveRunCauses}
use Rattle.gixobj_editor.specs.Replies.{IsRun}
use Rattle.gixobj_editor.specs.declared.reply.Reply.{Reply}
use Rattle.gixobj_editor.proofs.running.run.Given as goal

-- the replies so far, with replies to the remaining commands, are replies to all commands, and have their
-- causes
abbrev pub invariant-loop-command : goal.invariant-loop-command
invariant-loop-command g l =
    let model : StoreModel g.row.S.Denot = record { objects = g.S.Store.objects; may_fail = g.S.Store.may_fail } in
    let answers = (λ (tree : List EntryView) (answer : Result ObjectId g.row.E.Denot). FnReturnsAt g.F.Fn l.fn.out tree answer) in record {
      so_far : (replies : List (Reply g.row.E.Denot)) (new : State g.row.S.Denot)
          → IsRun model answers l.editor (into_iter_items l.command-iterator) replies new
          → IsRun model answers l.fn.editor l.fn.commands.items (l.replies.items ++ replies) new;
      room : vec_len l.replies + length (into_iter_items l.command-iterator) ≤ vec_capacity l.replies;
      same : l.out ≡ l.fn.out;
      causes : (replies : List (Reply g.row.E.Denot)) (new : State g.row.S.Denot)
          → HaveRunCauses model g.S.Keep.keep_errors answers l.editor (into_iter_items l.command-iterator) replies new
          → HaveRunCauses model g.S.Keep.keep_errors answers l.fn.editor l.fn.commands.items (l.replies.items ++ replies) new;
    }
