use Rattle.std.proofs.Common.{length, List, arith, ap, refl, Result, subst, ◌∙◌}
use Rattle.std.specs.Fn.{FnReturnsAt}
use Rattle.gixobj_editor_files.specs.Files.{Path}
use Rattle.gixobj_hash.specs.declared.hash.object_id.ObjectId.{ObjectId}
use Rattle.gixobj_store.specs.Stores.{StoreModel}
use Rattle.gixobj_tree_entries.specs.Entries.{EntryView}
use Rattle.gixobj_editor.specs.Commands.{at_cursor}
use Rattle.gixobj_editor.specs.Replies.{IsEditReply}
use Rattle.gixobj_editor.proofs.Causes.{no_more_edit_causes, one_more_edit_cause}
use Rattle.gixobj_editor.proofs.LongerRuns.{no_more_edits, one_more_edit}
use Rattle.gixobj_editor.proofs.by_cursor.do_edits.Goals as goal

pub loop-edit-preserved : goal.loop-edit-preserved
loop-edit-preserved g c =
    let model : StoreModel g.row.S.Denot = record { objects = g.S.Store.objects; may_fail = g.S.Store.may_fail } in
    let answers = λ (tree : List EntryView) (answer : Result ObjectId g.row.E.Denot). FnReturnsAt g.F.Fn c.args.out.now tree answer in
    let steps = c.in-Some.ensures.steps in
    let one = subst (λ (p : Path). IsEditReply model answers (at_cursor p) c.loop-edit.cursor.editor.now c.in-Some.edit c.do_edit_by-reply.result
    c.do_edit_by-reply.new.cursor.editor.now) c.loop-edit.invariant.prefix c.do_edit_by-reply.ensures.reply in
    record {
      so_far = λ replies new h. one_more_edit model answers (at_cursor c.args.cursor.now.editor.now.prefix) c.loop-edit.cursor.editor.now _ _ _ _ _ _ _ _ _ _ _
          one steps.0 c.push_reserved.ensures.items c.loop-edit.invariant.so_far h;
      room = let e = ap length steps.0 in grind (arith, c.loop-edit.invariant.room);
      same = refl;
      same_reference = c.do_edit_by-reply.ensures.same_reference ∙ c.loop-edit.invariant.same_reference;
      prefix = c.do_edit_by-reply.ensures.prefix ∙ c.loop-edit.invariant.prefix;
      causes = λ replies new h. one_more_edit_cause model g.S.Keep.keep_errors answers (at_cursor c.args.cursor.now.editor.now.prefix)
          c.loop-edit.cursor.editor.now _ _ _ _ _ _ _ _ _ _ _ one c.do_edit_by-reply.ensures.cause steps.0 c.push_reserved.ensures.items
          c.loop-edit.invariant.causes h;
    }

pub returns-clause-replies : goal.returns-clause-replies
returns-clause-replies g c =
    let model : StoreModel g.row.S.Denot = record { objects = g.S.Store.objects; may_fail = g.S.Store.may_fail } in
    let answers = λ (tree : List EntryView) (answer : Result ObjectId g.row.E.Denot). FnReturnsAt g.F.Fn c.args.out.now tree answer in
    no_more_edits model answers (at_cursor c.args.cursor.now.editor.now.prefix) _ _ _ _ _
    (omega (arith, c.in-None.ensures.steps.0, c.loop-edit.edit-iterator.rest.ok.0)) c.loop-edit.invariant.so_far

pub returns-clause-causes : goal.returns-clause-causes
returns-clause-causes g c =
    let model : StoreModel g.row.S.Denot = record { objects = g.S.Store.objects; may_fail = g.S.Store.may_fail } in
    let answers = λ (tree : List EntryView) (answer : Result ObjectId g.row.E.Denot). FnReturnsAt g.F.Fn c.args.out.now tree answer in
    no_more_edit_causes model g.S.Keep.keep_errors answers (at_cursor c.args.cursor.now.editor.now.prefix) _ _ _ _ _
    (omega (arith, c.in-None.ensures.steps.0, c.loop-edit.edit-iterator.rest.ok.0)) c.loop-edit.invariant.causes
