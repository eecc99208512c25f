use Rattle.gixobj_codec.proofs.UniqueTrailers.{trailer_block_unique, trailers_unique}
use Rattle.gixobj_codec.proofs.messages.trailers_are_unique.Goals as goal

pub returns-clause-trailers : goal.returns-clause-trailers
returns-clause-trailers c = trailers_unique

pub returns-clause-block : goal.returns-clause-block
returns-clause-block c = trailer_block_unique
