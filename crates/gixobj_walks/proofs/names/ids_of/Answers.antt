-- Each number of the list has its name.
use Rattle.std.proofs.Common.{◌+◌, subst, sym, take}
use Rattle.std.specs.List.{AllZip}
use Rattle.gixobj_walks.specs.Named.{Names}
use Rattle.gixobj_walks.proofs.NamedLists.{zip_take_more_left}
use Rattle.gixobj_walks.proofs.names.ids_of.Goals as goal

pub loop-number-preserved : goal.loop-number-preserved
loop-number-preserved c = subst (λ it. AllZip (Names c.args.names.now) (take (c.loop-number.number-index + 1) c.args.numbers.now) it)
    (sym c.in_ok-push.ensures.items)
    (zip_take_more_left (Names c.args.names.now) c.args.numbers.now c.loop-number.ids.items c.loop-number.number-index _ _ c.loop-number-test.true
    c.loop-number.invariant c.id_of.ensures)
