use Rattle.std.proofs.Common.{◌∙◌, sym}
use Rattle.gixobj_store_keep.proofs.IdsInOrder.{len_memory_objects}
use Rattle.gixobj_store_keep.proofs.memory.Memory.len.Goals as goal

pub returns : goal.returns
returns c = c.len.ensures.len ∙ sym (len_memory_objects c.args.self.now c.len.ensures.ordered)
