use Rattle.gixobj_examples_edits.proofs.Commits.{if_err_of}
use Rattle.gixobj_examples_edits.specs.Ancestors.{IsWalkError}
use Rattle.gixobj_examples_edits.proofs.history.ancestor.Goals as goal

pub returns-in_err-id-clause-error : goal.returns-in_err-id-clause-error
returns-in_err-id-clause-error g c =
    if_err_of c.from_residual.result c.in_err-id.field-0.0
    (IsWalkError (g.S.Store.objects c.args.store.now) (g.S.Store.may_fail c.args.store.now) c.args.generations c.args.start) c.from_residual.ensures.1
    (c.loop.counter, c.loop.id, c.loop-test.true, c.loop.invariant, c.in_err-id.ensures.error)
