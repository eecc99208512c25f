-- What follows a trailer is at the end of the message.
use Rattle.gixobj_c.proofs.TrailerCalls.{rest_of_lines}
use Rattle.gixobj_c.proofs.trailers.gixobj_trailer.Goals as goal

pub offset_of-requires : goal.offset_of-requires
offset_of-requires c = rest_of_lines _ _ _ _ _ _ c.lines_at-lines.ensures (rw c.in-Ok-Some.field-0-is at c.in-Ok-Some.ensures.found)
