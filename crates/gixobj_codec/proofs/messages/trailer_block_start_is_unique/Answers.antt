use Rattle.gixobj_codec.proofs.UniqueTrailers.{block_start_unique}
use Rattle.gixobj_codec.proofs.messages.trailer_block_start_is_unique.Goals as goal

pub returns : goal.returns
returns c = block_start_unique
