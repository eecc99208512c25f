use Rattle.gixobj_grammar.proofs.LineErrors.{no_actor_of_malformed_value}
use Rattle.gixobj_grammar.proofs.lines.actor_line.Goals as goal

pub returns-in_default-signature_of_line-clause-none : goal.returns-in_default-signature_of_line-clause-none
returns-in_default-signature_of_line-clause-none c =
    no_actor_of_malformed_value c.args.name.now c.args.input.now c.in-Some.line.now c.in-Some.rest.now c.in-Some.ensures.found
    c.in_default-signature_of_line.ensures.none
