-- One commit more is added in each turn.
use Rattle.std.proofs.Common.{heap_items, length, refl}
use Rattle.gixobj_walks_marks.proofs.Replaced.{nothing_added, one_more_added}
use Rattle.gixobj_walks_marks.proofs.reading.replace_next.Goals as goal

pub loop-init : goal.loop-init
loop-init c = nothing_added c.args.number c.args.nodes.now.items c.args.left.now.items c.args.right.now.items
    (heap_items c.args.queue.now) (heap_items c.take_out.new.queue) c.args.read c.take_out.ensures c.requires.reading

pub loop-preserved : goal.loop-preserved
loop-preserved c = one_more_added c.args.number c.loop.counter c.args.nodes.now.items c.args.left.now.items c.args.right.now.items
    c.loop.nodes.items c.loop.left.items c.loop.right.items (heap_items c.loop.queue) c.args.read
    c.push_unread.new.nodes.items c.push_unread.new.left.items c.push_unread.new.right.items (heap_items c.push_unread.new.queue)
    (record { seconds = c.args.seconds; number = length c.loop.nodes.items }) c.loop.invariant refl
    c.in_ok-push_unread.ensures.queue c.in_ok-push_unread.ensures.nodes c.in_ok-push_unread.ensures.left c.in_ok-push_unread.ensures.right
