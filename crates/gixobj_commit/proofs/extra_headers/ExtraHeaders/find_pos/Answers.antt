use Rattle.gixobj_commit.proofs.HeaderSearches.{finds_position_of_yields}
use Rattle.gixobj_commit.proofs.extra_headers.ExtraHeaders.find_pos.Goals as goal

pub returns-then-is_named : goal.returns-then-is_named
returns-then-is_named g c = finds_position_of_yields g.I.Iterator.next_gives c.args.name.now c.args.self.inner _ _ _ c.loop-key.yielded c.in-Some.key
    c.in-Some.field-0-1
    c.loop-key.index c.loop-key.invariant.counted c.loop-key.invariant.others c.into_iter-key-iterator.ensures.into_iter_gives c.loop-key.yielded_by
    c.in-Some.ensures.steps (c.is_named.ensures.0 c.if-is_named.true)
