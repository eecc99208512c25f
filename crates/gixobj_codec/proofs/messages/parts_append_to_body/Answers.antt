use Rattle.std.proofs.Common.{take-append-drop}
use Rattle.gixobj_codec.proofs.BodyParts.{joined_parts_of_bytes}
use Rattle.gixobj_codec.proofs.messages.parts_append_to_body.Goals as goal

pub returns-clause-without_trailer : goal.returns-clause-without_trailer
returns-clause-without_trailer c = take-append-drop

pub returns-clause-blocks : goal.returns-clause-blocks
returns-clause-blocks c = joined_parts_of_bytes
