use Rattle.gixobj_actor.proofs.EncodedTimes.{time_unique, encode_time_decodes}
use Rattle.gixobj_actor.proofs.laws.time_round_trips.Goals as goal

pub returns-clause-same_time : goal.returns-clause-same_time
returns-clause-same_time c = encode_time_decodes

pub returns-clause-one_time : goal.returns-clause-one_time
returns-clause-one_time c = time_unique
