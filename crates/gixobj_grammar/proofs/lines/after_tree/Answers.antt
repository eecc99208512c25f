use Rattle.gixobj_grammar.proofs.SkippedLines.{tree_is_line}
use Rattle.gixobj_grammar.proofs.lines.after_tree.Goals as goal

pub returns-clause-found : goal.returns-clause-found
returns-clause-found c = tree_is_line c.args.kind c.args.input.now _ c.in-Some.rest.now c.in-Some.ensures.found
