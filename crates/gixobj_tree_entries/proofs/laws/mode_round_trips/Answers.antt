use Rattle.gixobj_tree_entries.proofs.ModesRoundTrip as law
use Rattle.gixobj_tree_entries.proofs.laws.mode_round_trips.Goals as goal

pub returns : goal.returns
returns c = law.mode_round_trips
