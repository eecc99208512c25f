use Rattle.std.proofs.Common.{Result, ◌≡◌, ◌+◌, ◌≤◌, ◌++◌, List, length, vec_len, vec_capacity}
use Rattle.std.specs.Fn.{FnReturnsAt}
use Rattle.std.specs.Vec.Iter.{into_iter_items}
use Rattle.gixobj_editor_files.specs.State.{State}
use Rattle.gixobj_hash.specs.declared.hash.object_id.ObjectId.{ObjectId}
use Rattle.gixobj_store.specs.Stores.{StoreModel}
use Rattle.gixobj_tree_entries.specs.Entries.{EntryView}
use Rattle.gixobj_editor.specs.Causes.{HaveEditCauses}
use Rattle.gixobj_editor.specs.Commands.{at_cursor}
use Rattle.gixobj_editor.specs.Replies.{AreEditReplies}
use Rattle.gixobj_editor.specs.declared.reply.EditReply.{EditReply}
use Rattle.gixobj_editor.proofs.by_cursor.do_edits.Given as goal

-- the replies so far, with replies to the remaining edits, are replies to all edits, and have their causes
abbrev pub invariant-loop-edit : goal.invariant-loop-edit
invariant-loop-edit g l =
    let model : StoreModel g.row.S.Denot = record { objects = g.S.Store.objects; may_fail = g.S.Store.may_fail } in
    let answers = (λ (tree : List EntryView) (answer : Result ObjectId g.row.E.Denot). FnReturnsAt g.F.Fn l.fn.out tree answer) in record {
      so_far : (replies : List (EditReply g.row.E.Denot)) (new : State g.row.S.Denot)
          → AreEditReplies model answers (at_cursor l.fn.cursor.editor.now.prefix) l.cursor.editor.now (into_iter_items l.edit-iterator) replies new
          → AreEditReplies model answers (at_cursor l.fn.cursor.editor.now.prefix) l.fn.cursor.editor.now l.fn.edits.items (l.replies.items ++ replies) new;
      room : vec_len l.replies + length (into_iter_items l.edit-iterator) ≤ vec_capacity l.replies;
      same : l.out ≡ l.fn.out;
      same_reference : l.cursor.editor.ghost_name ≡ l.fn.cursor.editor.ghost_name;
      prefix : l.cursor.editor.now.prefix ≡ l.fn.cursor.editor.now.prefix;
      causes : (replies : List (EditReply g.row.E.Denot)) (new : State g.row.S.Denot)
          → HaveEditCauses model g.S.Keep.keep_errors answers (at_cursor l.fn.cursor.editor.now.prefix) l.cursor.editor.now (into_iter_items l.edit-iterator)
          replies new
          → HaveEditCauses model g.S.Keep.keep_errors answers (at_cursor l.fn.cursor.editor.now.prefix) l.fn.cursor.editor.now l.fn.edits.items
          (l.replies.items ++ replies) new;
    }
