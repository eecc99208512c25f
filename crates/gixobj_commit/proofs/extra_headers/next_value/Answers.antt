use Rattle.gixobj_commit.proofs.HeaderSearches.{next_value_of_yields}
use Rattle.gixobj_commit.proofs.extra_headers.next_value.Goals as goal

pub returns-then-is_named-clause-value : goal.returns-then-is_named-clause-value
returns-then-is_named-clause-value g c =
    next_value_of_yields g.I.Iterator.next_gives c.args.name.now c.args.headers.now _ c.next.new.self c.headers.yielded c.in-Some.key c.in-Some.value
    c.headers.invariant.others c.headers.yielded_by c.in-Some.ensures.steps (c.is_named.ensures.0 c.if-is_named.true)
