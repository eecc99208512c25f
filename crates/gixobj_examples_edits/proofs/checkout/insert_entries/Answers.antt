-- The entries are inserted, one after the other.
use Rattle.std.proofs.Common.{rules, ◌≡◌, ◌∙◌, Err, IfErr, ap, subst, sym}
use Rattle.gixobj_examples_edits.specs.Checkouts.{AreNotInserted}
use Rattle.gixobj_examples_edits.proofs.Inserted.{all_inserted, next_inserted, next_rejected}
use Rattle.gixobj_examples_edits.proofs.checkout.insert_entries.Goals as goal
use Rattle.gix_object.specs.Stores.{StoreModel}
use Rattle.gix_object.specs.Calls.{names_of}

pub loop-entry-preserved : goal.loop-entry-preserved
loop-entry-preserved g c =
    let model : StoreModel g.row.S.Denot = record { objects = g.S.Store.objects; may_fail = g.S.Store.may_fail } in
    let old = c.args.cursor.now.editor.now in
    let before = c.loop-entry.invariant in
    record {
      same_editor = c.try_upsert.ensures.same_reference ∙ before.same_editor;
      same_prefix = c.try_upsert.ensures.prefix ∙ before.same_prefix;
      inserted_in = next_inserted model old.prefix old c.loop-entry.cursor.editor.now c.try_upsert.new.self.editor.now c.loop-entry.cursor.editor.now.prefix
          (names_of c.deref.result.now) c.args.entries.now c.loop-entry.entry-index c.entry-item.result
          c.loop-entry-test.true c.entry-item.is before.same_prefix (ap names_of c.deref.ensures.value) before.inserted_in
          (c.in_ok-try_upsert.ensures {u = tt}).upserted;
    }

pub returns-clause-inserted : goal.returns-clause-inserted
returns-clause-inserted g c =
    let model : StoreModel g.row.S.Denot = record { objects = g.S.Store.objects; may_fail = g.S.Store.may_fail } in
    all_inserted model c.args.cursor.now.editor.now.prefix c.args.cursor.now.editor.now c.loop-entry.cursor.editor.now c.args.entries.now
    c.loop-entry.entry-index c.loop-entry-test.false c.loop-entry.invariant.inserted_in

pub returns-in_err-try_upsert-clause-error : goal.returns-in_err-try_upsert-clause-error
returns-in_err-try_upsert-clause-error g c =
    let model : StoreModel g.row.S.Denot = record { objects = g.S.Store.objects; may_fail = g.S.Store.may_fail } in
    let old = c.args.cursor.now.editor.now in
    let before = c.loop-entry.invariant in
    let is : c.from_residual.result ≡ Err c.in_err-try_upsert.field-0.0 = search rules in
    subst (λ r. IfErr r (AreNotInserted model old.prefix old c.args.entries.now)) (sym is)
    (next_rejected model old.prefix old c.loop-entry.cursor.editor.now c.loop-entry.cursor.editor.now.prefix (names_of c.deref.result.now) c.args.entries.now
    c.loop-entry.entry-index c.entry-item.result c.in_err-try_upsert.field-0.0
    c.loop-entry-test.true c.entry-item.is before.same_prefix (ap names_of c.deref.ensures.value) before.inserted_in
    (c.in_err-try_upsert.ensures {u = tt}).error)
