use Rattle.gix_object.specs.Memory.{memory_objects}
use Rattle.gixobj_cli_batch.proofs.Appended.{objects_of_take}
use Rattle.gixobj_cli_batch.proofs.store.store_of.Goals as goal

pub loop-it-preserved : goal.loop-it-preserved
loop-it-preserved c =
    objects_of_take c.args.records.now c.loop-it.it-index _ (memory_objects c.loop-it.store) (memory_objects c.insert_record.new.store) c.loop-it-test.true
    c.loop-it.invariant c.in_ok-insert_record.ensures
