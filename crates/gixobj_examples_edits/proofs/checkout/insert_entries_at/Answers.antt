-- The directory is made, and then the cursor inserts the entries.
use Rattle.std.proofs.Common.{rules, ◌≡◌}
use Rattle.gixobj_examples_edits.proofs.Inserted.{filled_after, rejected_in}
use Rattle.gixobj_examples_edits.proofs.checkout.insert_entries_at.Goals as goal
use Rattle.gix_object.specs.Stores.{StoreModel}
use Rattle.gix_object.specs.Calls.{names_of}
use Rattle.gix_object.specs.Cursors.{cursor_path}

pub returns-clause-inserted : goal.returns-clause-inserted
returns-clause-inserted g c =
    let model : StoreModel g.row.S.Denot = record { objects = g.S.Store.objects; may_fail = g.S.Store.may_fail } in
    let cursor = c.in_ok-cursor.ensures {u = tt} in
    let made = c.in_ok-cursor.cursor.editor.now in
    let last = c.insert_entries.new.cursor.editor.now in
    let is_remaining : c.editor-2-1.given.0 ≡ last = search rules in
    filled_after model made.prefix c.insert_entries.result c.args.editor.now made last c.editor-2-1.given.0
    (cursor_path (names_of c.args.prefix.now)) c.args.entries.now is_remaining cursor.prefix cursor.ensured c.insert_entries.ensures.inserted

pub returns-clause-error : goal.returns-clause-error
returns-clause-error g c =
    let model : StoreModel g.row.S.Denot = record { objects = g.S.Store.objects; may_fail = g.S.Store.may_fail } in
    let cursor = c.in_ok-cursor.ensures {u = tt} in
    let made = c.in_ok-cursor.cursor.editor.now in
    rejected_in model made.prefix c.insert_entries.result c.args.editor.now made (cursor_path (names_of c.args.prefix.now)) c.args.entries.now cursor.prefix
    cursor.ensured c.insert_entries.ensures.error
