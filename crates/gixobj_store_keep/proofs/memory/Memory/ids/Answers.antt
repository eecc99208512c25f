use Rattle.std.proofs.Common.{◌∙◌, sym}
use Rattle.gixobj_store_keep.proofs.IdsInOrder.{keys_memory_objects}
use Rattle.gixobj_store_keep.proofs.memory.Memory.ids.Goals as goal

pub returns : goal.returns
returns c = c.keys.ensures.rest ∙ sym (keys_memory_objects c.args.self.now c.keys.ensures.ordered)
