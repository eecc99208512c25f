use Rattle.gixobj_codec.proofs.TrailerLines.{decodes_to_trailer_of_parts, trailer_parts_of_decoded}
use Rattle.gixobj_codec.proofs.messages.trailer_line_decodes.Goals as goal

pub returns : goal.returns
returns c = λ content token value. (trailer_parts_of_decoded content token value, decodes_to_trailer_of_parts content (token, value))
