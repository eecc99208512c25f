use Rattle.gixobj_parse.proofs.MarkerPlaces.{format_of_marker_unique}
use Rattle.gixobj_parse.proofs.laws.signatures.signature_format_is_unique.Goals as goal

pub returns : goal.returns
returns c = format_of_marker_unique
