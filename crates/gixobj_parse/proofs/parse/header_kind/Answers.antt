use Rattle.gixobj_parse.proofs.HeaderFields.{no_kind_of_unknown_name}
use Rattle.gixobj_parse.proofs.parse.header_kind.Goals as goal

pub returns-in_default-from_name-clause-none : goal.returns-in_default-from_name-clause-none
returns-in_default-from_name-clause-none c =
    no_kind_of_unknown_name c.args.name.now c.args.input.now c.in-Some.token.now c.in-Some.rest.now c.in-Some.ensures.found c.in_default-from_name.ensures
