use Rattle.std.proofs.Common.{rules}
use Rattle.gixobj_encode.proofs.stream_hash.compute_stream_hash.Goals as goal

pub returns-clause-found : goal.returns-clause-found
returns-clause-found g c = search rules
