use Rattle.gixobj_examples_checked.proofs.MoreObjects.{none_received}
use Rattle.gixobj_examples_checked.proofs.received.ReceivedObjects.new.Goals as goal
use Rattle.gixobj_store_keep.specs.Memory.{memory_objects}

pub returns-clause-received : goal.returns-clause-received
returns-clause-received c = none_received (memory_objects c.new.result) c.new.ensures
