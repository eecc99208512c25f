use Rattle.gixobj_tests_codec.proofs.trees.offsets.offsets.Goals as goal

pub offset_to_next_entry-requires-in-loop-seen : goal.offset_to_next_entry-requires-in-loop-seen
offset_to_next_entry-requires-in-loop-seen c = c.remaining_bytes_are_suffix.ensures.continues _ c.loop-seen.seen c.next.new.self c.next.result
    c.loop-seen.invariant c.next.ensures.steps

pub loop-seen-preserved : goal.loop-seen-preserved
loop-seen-preserved c = c.remaining_bytes_are_suffix.ensures.continues _ c.loop-seen.seen c.next.new.self c.next.result c.loop-seen.invariant
    c.next.ensures.steps
