use Rattle.std.proofs.Common.{take}
use Rattle.std.specs.List.{AllZip}
use Rattle.gixobj_walks.specs.Named.{Names}
use Rattle.gixobj_walks.proofs.names.ids_of.Given as goal

abbrev pub invariant-loop-number : goal.invariant-loop-number
invariant-loop-number l = AllZip (Names l.names) (take l.number-index l.numbers) l.ids.items
