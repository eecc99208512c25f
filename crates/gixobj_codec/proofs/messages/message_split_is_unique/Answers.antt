use Rattle.gixobj_codec.proofs.UniqueTrailers.{title_split_unique}
use Rattle.gixobj_codec.proofs.messages.message_split_is_unique.Goals as goal

pub returns : goal.returns
returns c = title_split_unique
