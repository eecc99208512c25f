use Rattle.gixobj_codec.proofs.UniqueBlocks.{blocks_unique}
use Rattle.gixobj_codec.proofs.messages.blocks_are_unique.Goals as goal

pub returns : goal.returns
returns c = blocks_unique
