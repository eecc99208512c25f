-- An input begins with at most one loose header, and an input that begins with one is accepted.
use Rattle.gixobj_hash.proofs.Headers.{decode_header_of_loose_header}
use Rattle.gixobj_hash.proofs.decode.loose_header.Goals as goal

pub returns-clause-accepts : goal.returns-clause-accepts
returns-clause-accepts c = decode_header_of_loose_header _ c.decode_loose_header_parts.result c.decode_loose_header_parts.ensures.found
    c.decode_loose_header_parts.ensures.error
