use Rattle.std.proofs.Common.{arith}
use Rattle.std.proofs.lemmas.Grind.{common_steps}
use Rattle.gixobj_store_keep.proofs.Objects.{named_memory_objects}
use Rattle.gixobj_store_keep.proofs.memory.MemoryFind.try_find.Goals as goal

pub returns-clause-found : goal.returns-clause-found
returns-clause-found c = grind (arith, common_steps, named_memory_objects)
