use Rattle.std.proofs.Common.{arith}
use Rattle.std.proofs.lemmas.Grind.{common_steps}
use Rattle.gixobj_grammar.proofs.TagBodies.{is_body_of_newlines}
use Rattle.gixobj_grammar.proofs.TagBodies.{is_body_after_newline}
use Rattle.gixobj_grammar.proofs.TagBodies.{no_body_of_other_byte}
use Rattle.gixobj_grammar.proofs.bodies.body.Goals as goal

pub returns-clause-found : goal.returns-clause-found
returns-clause-found c = grind (arith, common_steps, is_body_of_newlines, is_body_after_newline, no_body_of_other_byte)
