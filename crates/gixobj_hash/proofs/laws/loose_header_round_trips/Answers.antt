use Rattle.gixobj_hash.proofs.Headers.{encode_loose_header_decodes}
use Rattle.gixobj_hash.proofs.laws.loose_header_round_trips.Goals as goal

pub returns : goal.returns
returns c = encode_loose_header_decodes
