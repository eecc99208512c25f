-- The fields are written one after the other.
use Rattle.std.proofs.Common.{ℕ, List, ap, take, refl, subst, ◌∙◌}
use Rattle.std.proofs.lemmas.List.{take_all}
use Rattle.std.proofs.lemmas.Result.{err_from_is_err_and}
use Rattle.std.specs.List.{flat_map}
use Rattle.gixobj_streams.proofs.Concatenations.{appends_prefix_of_item, flat_map_take_succ}
use Rattle.gixobj_streams.proofs.Appends.{appends_all_append, appends_all_nil}
use Rattle.gixobj_streams.specs.Streams.{AppendsAll}
use Rattle.gixobj_commit.proofs.commit.write.write_each.Goals as goal

pub loop-field-init : goal.loop-field-init
loop-field-init g c = record { appended = appends_all_nil _; same_loan = refl }

pub loop-field-preserved : goal.loop-field-preserved
loop-field-preserved g c = record {
  appended = rw (flat_map_take_succ g.T.Field.written c.args.fields.now c.loop-field.field-index c.field-item.result c.loop-field-test.true c.field-item.is)
      (appends_all_append _ _ _ (flat_map g.T.Field.written (take c.loop-field.field-index c.args.fields.now))
      (g.T.Field.written c.field-item.result) c.loop-field.invariant.appended c.in_ok-write_bytes.ensures.appended);
  same_loan = c.write_bytes.ensures.same_loan ∙ c.loop-field.invariant.same_loan;
}

pub returns-in_err-write_bytes-clause-appended : goal.returns-in_err-write_bytes-clause-appended
returns-in_err-write_bytes-clause-appended g c =
    let from = err_from_is_err_and c.from_residual.result c.from_residual.ensures.1 in
    rw (from.1, from.2) (appends_prefix_of_item g.T.Field.written _ _ _ c.args.fields.now c.loop-field.field-index c.field-item.result c.loop-field-test.true
    c.field-item.is c.loop-field.invariant.appended c.in_err-write_bytes.ensures.appended)

pub returns-clause-appended : goal.returns-clause-appended
returns-clause-appended g c =
    subst (λ (content : List ℕ). AppendsAll (g.S.Sink.view c.args.sink.now) (g.S.Sink.view c.loop-field.sink) content)
    (ap (flat_map g.T.Field.written) (take_all c.loop-field.field-index c.args.fields.now c.loop-field-test.false)) c.loop-field.invariant.appended
