use Rattle.gixobj_grammar.proofs.SkippedLines.{committer_is_line}
use Rattle.gixobj_grammar.proofs.lines.after_committer.Goals as goal

pub returns-clause-found : goal.returns-clause-found
returns-clause-found c = λ kind. committer_is_line kind c.args.input.now _ c.in-Some.rest.now c.in-Some.ensures.found
