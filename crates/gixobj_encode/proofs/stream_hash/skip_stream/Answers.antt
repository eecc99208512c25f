use Rattle.std.proofs.Common.{rules}
use Rattle.gixobj_encode.proofs.stream_hash.skip_stream.Goals as goal

pub returns-clause-remaining : goal.returns-clause-remaining
returns-clause-remaining g c = search rules
