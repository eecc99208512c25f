-- The written root, which the editor opens again.
use Rattle.std.proofs.Common.{◌∙◌, [], List, Result, ap, rules, subst, sym}
use Rattle.std.specs.Fn.{FnReturnsAt}
use Rattle.gix_object.specs.Entries.{EntryView}
use Rattle.gix_object.specs.State.{State, root_alone, with_store}
use Rattle.gix_object.specs.Stores.{StoreModel}
use Rattle.gix_object.specs.Replies.{IsRun}
use Rattle.gix_object.specs.editor.reply.EditReply.TheVariants as edit_reply
use Rattle.gix_object.specs.hash.hash.object_id.ObjectId.{ObjectId}
use Rattle.gixobj_listings.specs.Roots.{IsRoot}
use Rattle.gixobj_examples_audits.proofs.RunChanged.{reopened}
use Rattle.gixobj_examples_audits.specs.Runs.{and_reply, and_write}
use Rattle.gixobj_examples_audits.proofs.runs.run_and_reopen.Goals as goal

pub returns-in-Err-root_in-clause-error : goal.returns-in-Err-root_in-clause-error
returns-in-Err-root_in-clause-error g c =
    let model : StoreModel g.row.S.Denot = record { objects = g.S.Store.objects; may_fail = g.S.Store.may_fail } in
    let answers = λ (tree : List EntryView) (answer : Result ObjectId g.row.E.Denot). FnReturnsAt g.F.Fn c.args.out tree answer in
    let it = c.in-Ok.it in
    let ran = c.in-Ok.ensures {u = tt} in
    let same = ap (λ (s : g.row.S.Denot). with_store c.run_and_write.new.editor s) (sym c.store_mut.ensures.value) in (
      it.1,
      (
        it.0.items,
        subst (λ (s : State g.row.S.Denot). IsRun model answers c.args.editor.now (and_write c.args.commands.items)
            (and_reply it.0.items (edit_reply.Written it.1)) s) same ran.run,
      ),
      (c.in-Err-root_in.ensures {u = tt}).error,
    )

pub returns-clause-reopened : goal.returns-clause-reopened
returns-clause-reopened g c =
    let model : StoreModel g.row.S.Denot = record { objects = g.S.Store.objects; may_fail = g.S.Store.may_fail } in
    let answers = λ (tree : List EntryView) (answer : Result ObjectId g.row.E.Denot). FnReturnsAt g.F.Fn c.args.out tree answer in
    let it = c.in-Ok.it in
    let ran = c.in-Ok.ensures {u = tt} in
    let between = c.run_and_write.new.editor in
    let root = c.in-Ok-root_in.root in
    reopened model answers c.store_has_tree_map.ensures c.stored_root_has_files.ensures c.args.editor.now between _ c.args.commands.items it.0.items it.1
    ran.run ran.files ran.filled ran.stored root
    (subst (λ (s : g.row.S.Denot). IsRoot (g.S.Store.objects s) it.1.id root) c.store_mut.ensures.value (c.in-Ok-root_in.ensures {u = tt}).found)
    c.set_root.result.now (search rules)
    (c.set_root.ensures.state ∙ ap (λ (s : g.row.S.Denot). record (with_store between s) { dirs = root_alone root; bases = root_alone [] })
    c.store_mut.ensures.value) c.set_root.ensures.files c.set_root.ensures.has_bases
