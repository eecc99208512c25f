use Rattle.std.proofs.Common.{All, subst}
use Rattle.std.proofs.lemmas.List.{take_all}
use Rattle.std.proofs.lemmas.List.Elements.{All-more}
use Rattle.std.specs.Prelude.{List}
use Rattle.gixobj_examples_checked.proofs.received.receive_all.Goals as goal
use Rattle.gixobj_examples_checked.specs.Stores.{IsTaken}
use Rattle.gixobj_store.specs.Stores.{stored}
use Rattle.gixobj_store.specs.declared.«data».Data.{Data}

pub loop-it-preserved : goal.loop-it-preserved
loop-it-preserved c = (
  c.in_ok-receive.ensures.received c.loop-it.invariant.0,
  All-more (λ it. IsTaken (stored it)) c.args.objects.now c.loop-it.it-index _ c.loop-it-test.true c.loop-it.invariant.1 c.in_ok-receive.ensures.accepts,
)

pub returns-clause-accepts : goal.returns-clause-accepts
returns-clause-accepts c = let P : List Data → Type 0 = All (λ it. IsTaken (stored it)) in
    subst P (take_all c.loop-it.it-index c.args.objects.now c.loop-it-test.false) c.loop-it.invariant.1
