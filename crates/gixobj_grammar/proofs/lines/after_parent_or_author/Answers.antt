use Rattle.gixobj_grammar.proofs.SkippedLines.{author_is_line, parent_is_line}
use Rattle.gixobj_grammar.proofs.lines.after_parent_or_author.Goals as goal

pub returns-in-Some-clause-found : goal.returns-in-Some-clause-found
returns-in-Some-clause-found c = parent_is_line c.args.kind c.args.input.now _ c.in-Some.rest.now c.in-Some.ensures.found

pub returns-clause-found : goal.returns-clause-found
returns-clause-found c = author_is_line c.args.kind c.args.input.now _ c.in-Some-actor_line.rest.now c.in-Some-actor_line.ensures.found
