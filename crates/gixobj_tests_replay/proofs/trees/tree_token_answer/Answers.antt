use Rattle.std.proofs.Common.{Some}
use Rattle.gixobj_tests_replay.proofs.trees.tree_token_answer.Goals as goal

pub loop-entry-init : goal.loop-entry-init
loop-entry-init c = c.remaining_bytes_are_suffix.ensures.starts _ _ c.from_bytes-seen.result c.from_bytes-seen.ensures

pub offset_to_next_entry-end-requires : goal.offset_to_next_entry-end-requires
offset_to_next_entry-end-requires c = c.remaining_bytes_are_suffix.ensures.continues _ c.loop-entry.seen c.next.new.self
    (Some c.in-Some.entry) c.loop-entry.invariant c.in-Some.ensures.steps

pub loop-entry-preserved-in-Ok : goal.loop-entry-preserved-in-Ok
loop-entry-preserved-in-Ok c = c.remaining_bytes_are_suffix.ensures.continues _ c.loop-entry.seen c.next.new.self (Some c.in-Some.entry) c.loop-entry.invariant
    c.in-Some.ensures.steps

pub loop-entry-preserved : goal.loop-entry-preserved
loop-entry-preserved c = c.remaining_bytes_are_suffix.ensures.continues _ c.loop-entry.seen c.next.new.self (Some c.in-Some.entry) c.loop-entry.invariant
    c.in-Some.ensures.steps
