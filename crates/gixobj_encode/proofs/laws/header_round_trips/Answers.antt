use Rattle.gixobj_encode.proofs.HeadersRoundTrip as law
use Rattle.gixobj_encode.proofs.laws.header_round_trips.Goals as goal

pub returns : goal.returns
returns c = law.header_round_trips
