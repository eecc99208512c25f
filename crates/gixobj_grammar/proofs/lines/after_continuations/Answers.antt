use Rattle.gixobj_grammar.proofs.SkippedLines.{consumed_unended, consumed_more}
use Rattle.gixobj_grammar.proofs.lines.after_continuations.Goals as goal

pub returns-in_default-split_at_byte-clause-none : goal.returns-in_default-split_at_byte-clause-none
returns-in_default-split_at_byte-clause-none c = consumed_unended c.args.input.now c.loop-following.rest.now c.in-Some.following.now
    c.loop-following.invariant c.in-Some.ensures c.in_default-split_at_byte.ensures.none

pub loop-following-preserved : goal.loop-following-preserved
loop-following-preserved c = consumed_more c.args.input.now c.loop-following.rest.now c.in-Some.following.now _ c.in-Some-split_at_byte.after.now
    c.loop-following.invariant c.in-Some.ensures c.in-Some-split_at_byte.ensures.found
