use Rattle.std.proofs.Common.{heap_items, subst}
use Rattle.gixobj_walks_marks.specs.Readings.{KeepsMarks, ReadingView}
use Rattle.gixobj_walks_marks.proofs.Kept.{added_reading, marks_added}
use Rattle.gixobj_walks_marks.proofs.reading.Reading.add.Goals as goal

pub invariant_of-added : goal.invariant_of-added
invariant_of-added c = added_reading c.self.inside.nodes.items c.push_unread.new.nodes.items c.self.inside.left.items
    c.push_unread.new.left.items c.self.inside.right.items c.push_unread.new.right.items
    (heap_items c.self.inside.queue) (heap_items c.push_unread.new.queue) c.args.seconds c.self.inside.read
    c.in_ok-number.ensures.nodes c.in_ok-number.ensures.left c.in_ok-number.ensures.right
    c.in_ok-number.ensures.queue c.self.invariant

pub returns-clause-left : goal.returns-clause-left
returns-clause-left c =
    subst (λ (w : ReadingView). KeepsMarks w.nodes w.left c.push_unread.new.nodes.items c.push_unread.new.left.items)
    c.self.view_is
    (marks_added c.self.inside.nodes.items c.push_unread.new.nodes.items c.self.inside.left.items
    c.push_unread.new.left.items c.in_ok-number.ensures.nodes c.in_ok-number.ensures.left)

pub returns-clause-right : goal.returns-clause-right
returns-clause-right c =
    subst (λ (w : ReadingView). KeepsMarks w.nodes w.right c.push_unread.new.nodes.items c.push_unread.new.right.items)
    c.self.view_is
    (marks_added c.self.inside.nodes.items c.push_unread.new.nodes.items c.self.inside.right.items
    c.push_unread.new.right.items c.in_ok-number.ensures.nodes c.in_ok-number.ensures.right)
