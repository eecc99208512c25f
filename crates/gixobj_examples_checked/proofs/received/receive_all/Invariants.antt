use Rattle.std.proofs.Common.{All, take}
use Rattle.gixobj_examples_checked.specs.Stores.{AreReceived, IsTaken}
use Rattle.gixobj_store.specs.Stores.{stored}
use Rattle.gixobj_store_keep.specs.Memory.{memory_objects}
use Rattle.gixobj_examples_checked.proofs.received.receive_all.Given as goal

abbrev pub invariant-loop-it : goal.invariant-loop-it
invariant-loop-it l = AreReceived (memory_objects l.store.objects)
    × All (λ it. IsTaken (stored it)) (take l.it-index l.objects)
