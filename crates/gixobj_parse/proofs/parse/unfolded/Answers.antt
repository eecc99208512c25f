use Rattle.gixobj_parse.proofs.HeaderFields.{is_unfolded_at_end, no_lines_of_split, unfolding_len_lt, unfolding_step}
use Rattle.gixobj_parse.proofs.parse.unfolded.Goals as goal

pub returns-in_default-split_at_byte-clause-error :
    goal.returns-in_default-split_at_byte-clause-error
returns-in_default-split_at_byte-clause-error c =
    λ same. no_lines_of_split c.args.first.now c.args.input.now c.loop-following.value.items c.loop-following.rest.now c.in-Some.following.now
    c.loop-following.invariant c.in-Some.ensures c.in_default-split_at_byte.ensures.none

pub loop-following-preserved : goal.loop-following-preserved
loop-following-preserved c = unfolding_step c.args.first.now c.args.input.now c.loop-following.value.items c.loop-following.rest.now c.in-Some.following.now
    c.in-Some-split_at_byte.line.now c.in-Some-split_at_byte.after.now c.extend_from_slice.new.self.items _ c.loop-following.invariant c.in-Some.ensures
    c.in-Some-split_at_byte.ensures.found c.in_ok-extend_from_slice.ensures.items c.in_ok-push-2.ensures.items

pub loop-following-smaller : goal.loop-following-smaller
loop-following-smaller c =
    unfolding_len_lt c.loop-following.rest.now c.in-Some.following.now c.in-Some-split_at_byte.line.now c.in-Some-split_at_byte.after.now c.in-Some.ensures
    c.in-Some-split_at_byte.ensures.found

pub returns-clause-found : goal.returns-clause-found
returns-clause-found c =
    is_unfolded_at_end c.args.first.now c.args.input.now c.loop-following.value.items c.loop-following.rest.now c.loop-following.invariant c.in_default.ensures
