-- The entries before the current one are written, and none of them is rejected.
use Rattle.std.proofs.Common.{◌≡◌, get_or, sym, ◌∙◌}
use Rattle.std.proofs.lemmas.Result.{err_from_is_err_and}
use Rattle.gixobj_streams.proofs.Appends.{appends_all_append}
use Rattle.gixobj_tree.proofs.TreeWrites.{are_free_take_succ, lacks_room_at_entry, no_error_of_free_tree, writing_error_at_entry, encode_tree_take_succ}
use Rattle.gixobj_tree.proofs.tree.write.TreeWriteTo.write_into.Goals as goal
use Rattle.gixobj_tree_entries.specs.EntryViews.{entry_view}

pub loop-entry-preserved : goal.loop-entry-preserved
loop-entry-preserved g c =
    let before = c.loop-entry.invariant in
    let write_bytes = c.in_ok-write_entry_ref.ensures in
    let items = c.deref-entry-items.result.now in
    let entry = entry_view c.from.result in
    let here : entry ≡ get_or items c.loop-entry.entry-index entry = rw c.from.ensures c.entry-item.is in
    record {
      write_bytes = rw (encode_tree_take_succ items c.loop-entry.entry-index entry c.loop-entry-test.true here)
          (appends_all_append _ _ _ _ _ before.write_bytes write_bytes.written);
      free = are_free_take_succ items c.loop-entry.entry-index entry c.loop-entry-test.true here before.free write_bytes.encodable;
      same = before.same;
      same_loan = write_bytes.same_loan ∙ before.same_loan;
    }

pub returns-in_err-write_entry_ref-clause-error : goal.returns-in_err-write_entry_ref-clause-error
returns-in_err-write_entry_ref-clause-error g c =
    let p = err_from_is_err_and c.from_residual.result c.from_residual.ensures.1 in
    let before = c.loop-entry.invariant in
    let items = c.deref-entry-items.result.now in
    let entry = entry_view c.from.result in
    let here : entry ≡ get_or items c.loop-entry.entry-index entry = rw c.from.ensures c.entry-item.is in
    rw (p.1, p.2, sym before.same) (writing_error_at_entry _ _ _ items c.loop-entry.entry-index entry c.loop-entry-test.true here
    before.write_bytes before.free c.in_err-write_entry_ref.field-0.0 c.in_err-write_entry_ref.ensures.error)

pub returns-in_err-write_entry_ref-clause-room : goal.returns-in_err-write_entry_ref-clause-room
returns-in_err-write_entry_ref-clause-room g c =
    let p = err_from_is_err_and c.from_residual.result c.from_residual.ensures.1 in
    let before = c.loop-entry.invariant in
    let items = c.deref-entry-items.result.now in
    let entry = entry_view c.from.result in
    let here : entry ≡ get_or items c.loop-entry.entry-index entry = rw c.from.ensures c.entry-item.is in
    rw (p.1, p.2, sym before.same) (lacks_room_at_entry _ _ _ items c.loop-entry.entry-index entry c.loop-entry-test.true here
    before.write_bytes before.free c.in_err-write_entry_ref.field-0.0 c.in_err-write_entry_ref.ensures.error
    c.in_err-write_entry_ref.ensures.room)

pub returns-clause-no_error : goal.returns-clause-no_error
returns-clause-no_error g c =
    no_error_of_free_tree c.deref-entry-items.result.now c.args.self.now c.loop-entry.entry-index c.loop-entry.invariant.same c.loop-entry-test.false
    c.loop-entry.invariant.free
