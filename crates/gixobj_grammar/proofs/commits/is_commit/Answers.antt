use Rattle.std.proofs.Common.{rules, ◌≡◌, ◌≢◌}
use Rattle.gixobj_grammar.proofs.EntireCommits.{some_line_shortens, reaches_end, reaches_more, reaches_none}
use Rattle.gixobj_grammar.specs.declared.lines.State.TheVariants as state
use Rattle.gixobj_grammar.proofs.commits.is_commit.Goals as goal

pub returns-in_default-after_line : goal.returns-in_default-after_line
returns-in_default-after_line c =
    let going : c.loop-state.state ≢ state.End = search rules in
    reaches_none c.args.hash_kind c.args.bytes.now c.loop-state.state c.loop-state.rest.now c.loop-state.invariant c.in_default-after_line.ensures.none going

pub loop-state-smaller : goal.loop-state-smaller
loop-state-smaller c = some_line_shortens c.args.hash_kind c.loop-state.state c.loop-state.rest.now c.in-Some.next_state c.in-Some.after.now
    c.in-Some.ensures.found

pub loop-state-preserved : goal.loop-state-preserved
loop-state-preserved c = reaches_more c.args.hash_kind c.args.bytes.now c.loop-state.state c.in-Some.next_state c.loop-state.rest.now c.in-Some.after.now
    c.loop-state.invariant c.in-Some.ensures.found

pub returns : goal.returns
returns c =
    let at_end : c.loop-state.state ≡ state.End = search rules in
    reaches_end c.args.hash_kind c.args.bytes.now c.loop-state.state c.loop-state.rest.now c.loop-state.invariant at_end
