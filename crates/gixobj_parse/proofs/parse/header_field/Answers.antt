use Rattle.gixobj_parse.proofs.HeaderFields.{no_field_without_newline}
use Rattle.gixobj_parse.proofs.parse.header_field.Goals as goal

pub returns-in_default-split_at_byte-clause-none :
    goal.returns-in_default-split_at_byte-clause-none
returns-in_default-split_at_byte-clause-none c = no_field_without_newline c.args.name.now c.args.input.now c.in-Some.line.now c.in-Some.ensures.found
    c.in_default-split_at_byte.ensures.none
