use Rattle.gixobj_examples_checked.proofs.MoreObjects.{received_of_same, received_with_more}
use Rattle.gixobj_examples_checked.proofs.received.ReceivedObjects.receive.Goals as goal
use Rattle.gixobj_examples_checked.specs.Stores.{AreReceived}
use Rattle.gixobj_store_keep.specs.Memory.{memory_objects}

pub returns-in_err-insert-clause-received : goal.returns-in_err-insert-clause-received
returns-in_err-insert-clause-received c =
    received_of_same (memory_objects c.args.self.now.objects) (memory_objects c.insert.new.self) c.in_err-insert.ensures.unchanged

pub returns-clause-received : goal.returns-clause-received
returns-clause-received c = λ (received : AreReceived (memory_objects c.args.self.now.objects)).
    let taken = c.in_ok-is_object_received.ensures.found.0 c.if-not-branch.false in
    received_with_more (memory_objects c.args.self.now.objects) (memory_objects c.insert.new.self) c.in_ok-insert.field-0
    (record { kind = c.args.kind; object_hash = c.args.object_hash; bytes = c.args.content.now }) received taken c.in_ok-insert.ensures.inserted
