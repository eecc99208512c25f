use Rattle.gixobj_grammar.proofs.TagBodies.{is_parted_at_marker, is_parted_at_start}
use Rattle.gixobj_grammar.proofs.bodies.parted.Goals as goal

pub returns-then-start-eq0 : goal.returns-then-start-eq0
returns-then-start-eq0 c =
    is_parted_at_start c.args.content.now _ _ c.in-Some.start c.in-Some.field-0-1 c.in-Some.ensures.found c.if-start-eq0.true c.new-then-start-eq0.ensures
    c.new-then-start-eq0-2.ensures

pub returns : goal.returns
returns c = is_parted_at_marker c.args.content.now _ _ c.in-Some.start c.in-Some.field-0-1 c.in-Some.ensures.found c.if-start-eq0.false c.new-2.ensures
    c.new-3.ensures
