-- The marks pass over the commits with those that were added, and then the commit is read.
use Rattle.std.proofs.Common.{◌≡◌, ◌+◌, ◌<◌, ◌∙◌, ◌++◌, ℕ, List, Option, Some, None, arith, heap_items, length, replicate, ◌∷◌, ap, subst, sym}
use Rattle.std.specs.List.{AllByRecursion}
use Rattle.std.proofs.Math.ListN.{set}
use Rattle.std.proofs.lemmas.Option.{slice_get_within}
use Rattle.gixobj_walks_graph.specs.Graph.{NodeView}
use Rattle.gixobj_walks_marks.specs.Readings.{IsUnread, KeepsMarks, ReadingView, reads}
use Rattle.gixobj_walks_marks.proofs.Kept.{marks_read, parents_known_at, passes_at, read_is_reading}
use Rattle.gixobj_walks_marks.proofs.Queued.{reads_more}
use Rattle.gixobj_walks_marks.proofs.Replaced.{replaced_parents, replaced_unread, taken_at_last}
use Rattle.gixobj_walks_marks.proofs.reading.Reading.read.Goals as goal

pub pass_mark-requires-clause-number : goal.pass_mark-requires-clause-number
pass_mark-requires-clause-number c =
    let unread : IsUnread c.replace_next.new.nodes.items c.args.number = replaced_unread
    c.args.number c.args.added c.self.inside.nodes.items c.self.inside.left.items c.self.inside.right.items
    c.replace_next.new.nodes.items c.replace_next.new.left.items c.replace_next.new.right.items
    (heap_items c.replace_next.new.queue) c.self.inside.read c.in_ok-replace_next.ensures.replaced in
    subst (λ (xs : List (Option (NodeView ℕ))). c.args.number < length xs) (sym c.deref.ensures.value)
    (slice_get_within c.replace_next.new.nodes.items c.args.number None unread)

pub pass_mark-requires-clause-parents : goal.pass_mark-requires-clause-parents
pass_mark-requires-clause-parents c =
    parents_known_at c.replace_next.new.nodes.items c.deref.result.now c.args.parents.items c.deref-2.result.now
    c.deref.ensures.value c.deref-2.ensures.value
    (replaced_parents
    c.args.number c.args.added c.self.inside.nodes.items c.self.inside.left.items c.self.inside.right.items
    c.replace_next.new.nodes.items c.replace_next.new.left.items c.replace_next.new.right.items
    (heap_items c.replace_next.new.queue) c.self.inside.read c.args.parents.items c.in_ok-replace_next.ensures.replaced
    (subst (λ (w : ReadingView). AllByRecursion (λ parent. parent < length w.nodes + c.args.added) c.args.parents.items)
    (sym c.self.view_is) c.requires.parents))

pub pass_mark-requires-2-clause-number : goal.pass_mark-requires-2-clause-number
pass_mark-requires-2-clause-number c =
    let unread : IsUnread c.replace_next.new.nodes.items c.args.number = replaced_unread
    c.args.number c.args.added c.self.inside.nodes.items c.self.inside.left.items c.self.inside.right.items
    c.replace_next.new.nodes.items c.replace_next.new.left.items c.replace_next.new.right.items
    (heap_items c.replace_next.new.queue) c.self.inside.read c.in_ok-replace_next.ensures.replaced in
    subst (λ (xs : List (Option (NodeView ℕ))). c.args.number < length xs) (sym c.deref-3.ensures.value)
    (slice_get_within c.replace_next.new.nodes.items c.args.number None unread)

pub pass_mark-requires-2-clause-parents : goal.pass_mark-requires-2-clause-parents
pass_mark-requires-2-clause-parents c =
    parents_known_at c.replace_next.new.nodes.items c.deref-3.result.now c.args.parents.items c.deref-4.result.now
    c.deref-3.ensures.value c.deref-4.ensures.value
    (replaced_parents
    c.args.number c.args.added c.self.inside.nodes.items c.self.inside.left.items c.self.inside.right.items
    c.replace_next.new.nodes.items c.replace_next.new.left.items c.replace_next.new.right.items
    (heap_items c.replace_next.new.queue) c.self.inside.read c.args.parents.items c.in_ok-replace_next.ensures.replaced
    (subst (λ (w : ReadingView). AllByRecursion (λ parent. parent < length w.nodes + c.args.added) c.args.parents.items)
    (sym c.self.view_is) c.requires.parents))

pub index_mut-requires : goal.index_mut-requires
index_mut-requires c =
    let unread : IsUnread c.replace_next.new.nodes.items c.args.number = replaced_unread
    c.args.number c.args.added c.self.inside.nodes.items c.self.inside.left.items c.self.inside.right.items
    c.replace_next.new.nodes.items c.replace_next.new.left.items c.replace_next.new.right.items
    (heap_items c.replace_next.new.queue) c.self.inside.read c.in_ok-replace_next.ensures.replaced in
    let inside = slice_get_within c.replace_next.new.nodes.items c.args.number None unread in
    omega (arith, inside, c.replace_next.new.nodes.ok.0)

pub invariant_of-result : goal.invariant_of-result
invariant_of-result c =
    let node : NodeView ℕ = record { parents = c.args.parents.items; seconds = c.args.seconds } in
    read_is_reading c.replace_next.new.nodes.items c.replace_next.new.left.items c.replace_next.new.right.items
    c.pass_mark.new.marked.items c.pass_mark-2.new.marked.items
    (c.in_ok-replace_next.ensures.replaced.unread ∷ heap_items c.replace_next.new.queue)
    (heap_items c.replace_next.new.queue) c.self.inside.read c.args.number node c.in_ok-replace_next.ensures.replaced.reading
    (taken_at_last
    c.args.number c.args.added c.self.inside.nodes.items c.self.inside.left.items c.self.inside.right.items
    c.replace_next.new.nodes.items c.replace_next.new.left.items c.replace_next.new.right.items
    (heap_items c.replace_next.new.queue) c.self.inside.read c.in_ok-replace_next.ensures.replaced)
    (replaced_parents
    c.args.number c.args.added c.self.inside.nodes.items c.self.inside.left.items c.self.inside.right.items
    c.replace_next.new.nodes.items c.replace_next.new.left.items c.replace_next.new.right.items
    (heap_items c.replace_next.new.queue) c.self.inside.read c.args.parents.items c.in_ok-replace_next.ensures.replaced
    (subst (λ (w : ReadingView). AllByRecursion (λ parent. parent < length w.nodes + c.args.added) c.args.parents.items)
    (sym c.self.view_is) c.requires.parents))
    (passes_at c.replace_next.new.nodes.items c.deref.result.now c.args.number c.args.parents.items c.deref-2.result.now
    c.replace_next.new.left.items c.pass_mark.new.marked.items c.deref.ensures.value c.deref-2.ensures.value
    c.in_ok-pass_mark.ensures.marks)
    (passes_at c.replace_next.new.nodes.items c.deref-3.result.now c.args.number c.args.parents.items
    c.deref-4.result.now c.replace_next.new.right.items c.pass_mark-2.new.marked.items c.deref-3.ensures.value
    c.deref-4.ensures.value c.in_ok-pass_mark-2.ensures.marks)
    c.in_ok-pass_mark.ensures.lengths c.in_ok-pass_mark-2.ensures.lengths

pub returns-clause-left : goal.returns-clause-left
returns-clause-left c =
    let node : NodeView ℕ = record { parents = c.args.parents.items; seconds = c.args.seconds } in
    let is = c.in_ok-replace_next.ensures.replaced in
    let unread : IsUnread c.replace_next.new.nodes.items c.args.number = replaced_unread
    c.args.number c.args.added c.self.inside.nodes.items c.self.inside.left.items c.self.inside.right.items
    c.replace_next.new.nodes.items c.replace_next.new.left.items c.replace_next.new.right.items
    (heap_items c.replace_next.new.queue) c.self.inside.read is in
    subst (λ (w : ReadingView). KeepsMarks w.nodes w.left (set c.replace_next.new.nodes.items c.args.number (Some node))
    c.pass_mark.new.marked.items)
    c.self.view_is
    (λ starts has. marks_read c.replace_next.new.nodes.items c.args.number node c.replace_next.new.left.items
    c.pass_mark.new.marked.items unread is.reading.left_closed
    (passes_at c.replace_next.new.nodes.items c.deref.result.now c.args.number c.args.parents.items
    c.deref-2.result.now c.replace_next.new.left.items c.pass_mark.new.marked.items c.deref.ensures.value
    c.deref-2.ensures.value c.in_ok-pass_mark.ensures.marks) starts (is.left_marks starts has))

pub returns-clause-right : goal.returns-clause-right
returns-clause-right c =
    let node : NodeView ℕ = record { parents = c.args.parents.items; seconds = c.args.seconds } in
    let is = c.in_ok-replace_next.ensures.replaced in
    let unread : IsUnread c.replace_next.new.nodes.items c.args.number = replaced_unread
    c.args.number c.args.added c.self.inside.nodes.items c.self.inside.left.items c.self.inside.right.items
    c.replace_next.new.nodes.items c.replace_next.new.left.items c.replace_next.new.right.items
    (heap_items c.replace_next.new.queue) c.self.inside.read is in
    subst (λ (w : ReadingView). KeepsMarks w.nodes w.right (set c.replace_next.new.nodes.items c.args.number (Some node))
    c.pass_mark-2.new.marked.items)
    c.self.view_is
    (λ starts has. marks_read c.replace_next.new.nodes.items c.args.number node c.replace_next.new.right.items
    c.pass_mark-2.new.marked.items unread is.reading.right_closed
    (passes_at c.replace_next.new.nodes.items c.deref-3.result.now c.args.number c.args.parents.items
    c.deref-4.result.now c.replace_next.new.right.items c.pass_mark-2.new.marked.items c.deref-3.ensures.value
    c.deref-4.ensures.value c.in_ok-pass_mark-2.ensures.marks) starts (is.right_marks starts has))

pub returns-clause-reads : goal.returns-clause-reads
returns-clause-reads c =
    let node : NodeView ℕ = record { parents = c.args.parents.items; seconds = c.args.seconds } in
    let is = c.in_ok-replace_next.ensures.replaced in
    let unread : IsUnread c.replace_next.new.nodes.items c.args.number = replaced_unread
    c.args.number c.args.added c.self.inside.nodes.items c.self.inside.left.items c.self.inside.right.items
    c.replace_next.new.nodes.items c.replace_next.new.left.items c.replace_next.new.right.items
    (heap_items c.replace_next.new.queue) c.self.inside.read is in
    subst (λ (w : ReadingView). reads (set c.replace_next.new.nodes.items c.args.number (Some node)) ≡ reads w.nodes + 1)
    c.self.view_is (reads_more c.replace_next.new.nodes.items c.args.number node unread ∙ ap (λ n. n + 1) is.reads_are)

pub returns-clause-nodes : goal.returns-clause-nodes
returns-clause-nodes c =
    let node : NodeView ℕ = record { parents = c.args.parents.items; seconds = c.args.seconds } in
    subst (λ (w : ReadingView). set c.replace_next.new.nodes.items c.args.number (Some node)
    ≡ set (w.nodes ++ replicate c.args.added None) c.args.number (Some node))
    c.self.view_is (ap (λ it. set it c.args.number (Some node)) c.in_ok-replace_next.ensures.replaced.nodes_are)
