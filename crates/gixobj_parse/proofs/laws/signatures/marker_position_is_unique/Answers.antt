use Rattle.gixobj_parse.proofs.MarkerPlaces.{marker_place_unique}
use Rattle.gixobj_parse.proofs.laws.signatures.marker_position_is_unique.Goals as goal

pub returns : goal.returns
returns c = marker_place_unique
