use Rattle.std.proofs.Common.{sym, ◌∙◌}
use Rattle.gixobj_actor.proofs.ActorLines.{no_actor_of_malformed_line, no_actor_of_rest_after_time}
use Rattle.gixobj_actor.proofs.parse.signature_of_line.Goals as goal

pub returns-in_default-clause-none : goal.returns-in_default-clause-none
returns-in_default-clause-none c = no_actor_of_malformed_line c.args.line.now c.in_default.ensures.none

pub returns-else-is_empty-clause-none : goal.returns-else-is_empty-clause-none
returns-else-is_empty-clause-none c = no_actor_of_rest_after_time c.args.line.now _ _ _ _ c.in-Some.ensures.found (sym c.is_empty.ensures ∙ c.if-is_empty.false)
