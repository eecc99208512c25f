-- One more id is peeled, or it is not.
use Rattle.std.proofs.lemmas.Result.{err_from_is_err_and}
use Rattle.gixobj_walks_store.proofs.Peels.{peel_error_at, peeled_one_more}
use Rattle.gixobj_walks_store.proofs.peel.peel_to_commits.Goals as goal

pub loop-id-preserved : goal.loop-id-preserved
loop-id-preserved g c = peeled_one_more (g.S.Store.objects c.args.store.now) c.args.max_tags c.args.ids.now c.loop-id.id-index _ _
    c.loop-id.commits.items c.push_found.new.commits.items c.in_ok-found.found c.loop-id-test.true c.as_oid.ensures c.loop-id.invariant
    c.in_ok-found.ensures.found c.in_ok-push_found.ensures

pub returns-in_err-found-clause-error : goal.returns-in_err-found-clause-error
returns-in_err-found-clause-error g c =
    let p = err_from_is_err_and c.from_residual.result c.from_residual.ensures.1 in
    rw (p.1, p.2) (peel_error_at (g.S.Store.objects c.args.store.now) (g.S.Store.may_fail c.args.store.now) c.args.max_tags c.args.ids.now
    c.loop-id.id-index _ _ c.in_err-found.field-0.0 c.loop-id-test.true c.as_oid.ensures c.in_err-found.ensures.error)
