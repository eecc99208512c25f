use Rattle.std.proofs.Common.{List, Result, inr, rules, ◌≡◌}
use Rattle.std.specs.Fn.{FnReturnsAt}
use Rattle.gixobj_editor_open.specs.Paths.{names_of}
use Rattle.gixobj_editor_lookups.specs.Openings.{OfTrees}
use Rattle.gixobj_editor.specs.Causes.{HasCausesAt}
use Rattle.gixobj_editor.specs.Cursors.{cursor_path}
use Rattle.gixobj_editor.specs.Upserts.{IsNameError}
use Rattle.gixobj_editor.specs.FailedEdits.{HasCountedIn, IsAfterFailedEdit}
use Rattle.gixobj_editor_files.specs.Edits.{IsNoTree}
use Rattle.gixobj_editor_files.specs.State.{State}
use Rattle.gixobj_editor_files.specs.Unopened.{with_empty_name}
use Rattle.gixobj_hash.specs.declared.hash.object_id.ObjectId.{ObjectId}
use Rattle.gixobj_store.specs.Stores.{StoreModel}
use Rattle.gixobj_tree_entries.specs.Entries.{EntryView}
use Rattle.gixobj_editor.specs.Replies.{IsReplyAt}
use Rattle.gixobj_editor.specs.declared.reply.Reply.TheVariants as reply
use Rattle.gixobj_editor.proofs.Causes.{causes_at}
use Rattle.gixobj_editor.proofs.Replied.{done_at}
use Rattle.gixobj_editor.proofs.by_cursor.do_edits_in.Goals as goal

pub returns-in-Ok : goal.returns-in-Ok
returns-in-Ok g c =
    let model : StoreModel g.row.S.Denot = record { objects = g.S.Store.objects; may_fail = g.S.Store.may_fail } in
    let answers = λ (tree : List EntryView) (answer : Result ObjectId g.row.E.Denot). FnReturnsAt g.F.Fn c.args.out.now tree answer in
    let made = c.in-Ok.ensures {u = tt} in
    let pending = c.do_edits.new.cursor.editor.now in
    let done : (new : State g.row.S.Denot) → new ≡ pending
    → IsReplyAt model answers (cursor_path (names_of c.args.prefix.now)) c.args.editor.now c.args.edits.items (reply.At c.do_edits.result) new =
    λ new outside. done_at model answers (cursor_path (names_of c.args.prefix.now)) c.in-Ok.cursor.editor.now.prefix c.args.editor.now c.in-Ok.cursor.editor.now
    pending new c.args.edits.items c.do_edits.result
    made.prefix made.ensured c.do_edits.ensures.replies outside in
    let causes : (new : State g.row.S.Denot) → new ≡ pending → HasCausesAt model g.S.Keep.keep_errors answers (cursor_path (names_of c.args.prefix.now))
    c.args.editor.now c.args.edits.items (reply.At c.do_edits.result) new =
    λ new outside. causes_at model g.S.Keep.keep_errors answers (cursor_path (names_of c.args.prefix.now)) c.in-Ok.cursor.editor.now.prefix c.args.editor.now
    c.in-Ok.cursor.editor.now pending new c.args.edits.items c.do_edits.result
    made.prefix made.ensured c.do_edits.ensures.causes outside in
    record { reply = done _ (search rules); causes = causes _ (search rules) }

pub returns-in-Err : goal.returns-in-Err
returns-in-Err g c =
    let pending = c.cursor_at.follows.lender-at-none in
    let rejected : OfTrees (g.S.Store.objects c.args.editor.now.store)
    (λ trees. IsAfterFailedEdit (record { objects = g.S.Store.objects; may_fail = g.S.Store.may_fail }) trees c.args.editor.now
    (with_empty_name (cursor_path (names_of c.args.prefix.now))) c.in-Err.error pending)
    × (IsNameError c.in-Err.error → pending ≡ c.args.editor.now)
    × HasCountedIn g.S.Store.objects IsNoTree c.args.editor.now (with_empty_name (cursor_path (names_of c.args.prefix.now))) pending c.in-Err.error =
    search rules in
    record { reply = inr (record { effect = rejected.0; cause = (c.in-Err.ensures {u = tt}).error }, rejected.1); causes = tt }
