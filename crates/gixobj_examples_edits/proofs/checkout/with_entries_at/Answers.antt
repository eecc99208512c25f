-- A new editor of the root inserts the entries, and then writes.
use Rattle.std.proofs.Common.{subst}
use Rattle.gixobj_examples_edits.specs.Checkouts.{IsFilled, IsNotFilled}
use Rattle.gixobj_examples_edits.proofs.Inserted.{checked_out_files}
use Rattle.gixobj_examples_edits.proofs.checkout.with_entries_at.Goals as goal
use Rattle.gix_object.specs.Stores.{StoreModel}
use Rattle.gix_object.specs.Bases.{HasBases}
use Rattle.gix_object.specs.Calls.{names_of}
use Rattle.gix_object.specs.Cursors.{cursor_path}
use Rattle.gix_object.specs.Files.{Files, SameFiles}
use Rattle.gix_object.specs.State.{EditorFiles, State, open_bases, open_dirs}

pub returns-in-Err-clause-error : goal.returns-in-Err-clause-error
returns-in-Err-clause-error g c =
    let model : StoreModel g.row.S.Denot = record { objects = g.S.Store.objects; may_fail = g.S.Store.may_fail } in
    let new = c.new-editor.ensures in
    let begun = new.state in
    subst (λ (state : State g.row.S.Denot). IsNotFilled model state (cursor_path (names_of c.args.prefix.now)) c.args.entries.now c.in-Err.error) begun
    (c.in-Err.ensures {u = tt}).error

pub returns-in-Ok-clause-files : goal.returns-in-Ok-clause-files
returns-in-Ok-clause-files g c = λ trees fits T n agrees pairs.
    let model : StoreModel g.row.S.Denot = record { objects = g.S.Store.objects; may_fail = g.S.Store.may_fail } in
    let new = c.new-editor.ensures in
    let begun = new.state in
    let filled = subst (λ (state : State g.row.S.Denot). IsFilled model state (cursor_path (names_of c.args.prefix.now)) c.args.entries.now
    c.insert_entries_at.new.editor) begun (c.in_default.ensures {u = tt}).inserted in
    let (last, wrote) = (c.in-Ok.ensures {u = tt}).written in
    let bases = subst (λ (state : State g.row.S.Denot). HasBases T (open_dirs state) (open_bases state)) begun (new.has_bases T) in
    let files = subst (λ (state : State g.row.S.Denot). SameFiles (EditorFiles T n state) (Files T n c.args.root)) begun (new.files T n) in
    checked_out_files model (cursor_path (names_of c.args.prefix.now)) trees T n agrees _ c.args.out c.args.store c.args.object_hash c.args.root
    c.args.entries.now c.in-Ok.written bases files
    (c.insert_entries_at.new.editor, c.write.new.self, last, filled, wrote) fits pairs

pub returns-in-Ok-clause-written : goal.returns-in-Ok-clause-written
returns-in-Ok-clause-written g c =
    let model : StoreModel g.row.S.Denot = record { objects = g.S.Store.objects; may_fail = g.S.Store.may_fail } in
    let new = c.new-editor.ensures in
    let begun = new.state in
    let filled = subst (λ (state : State g.row.S.Denot). IsFilled model state (cursor_path (names_of c.args.prefix.now)) c.args.entries.now
    c.insert_entries_at.new.editor) begun (c.in_default.ensures {u = tt}).inserted in
    let (last, wrote) = (c.in-Ok.ensures {u = tt}).written in
    (c.insert_entries_at.new.editor, c.write.new.self, last, filled, wrote)

pub returns-clause-error : goal.returns-clause-error
returns-clause-error g c =
    let model : StoreModel g.row.S.Denot = record { objects = g.S.Store.objects; may_fail = g.S.Store.may_fail } in
    let new = c.new-editor.ensures in
    let begun = new.state in
    let filled = subst (λ (state : State g.row.S.Denot). IsFilled model state (cursor_path (names_of c.args.prefix.now)) c.args.entries.now
    c.insert_entries_at.new.editor) begun (c.in_default.ensures {u = tt}).inserted in
    let (last, stopped) = (c.in-Err-write.ensures {u = tt}).error in
    (c.insert_entries_at.new.editor, last, filled, stopped)
