use Rattle.std.proofs.Common.{◌<◌, ℕ, heap_items, length, subst}
use Rattle.gixobj_walks_graph.specs.Graph.{IsRead}
use Rattle.gixobj_walks_graph.specs.Numbered.{graph_at}
use Rattle.gixobj_walks_marks.specs.Readings.{ReadingView}
use Rattle.gixobj_walks_marks.proofs.Queued.{all_are_read}
use Rattle.gixobj_walks_marks.proofs.reading.Reading.next_unread.Goals as goal

pub returns-in-None-clause-none : goal.returns-in-None-clause-none
returns-in-None-clause-none c =
    subst (λ (w : ReadingView). (number : ℕ) → number < length w.nodes → IsRead (graph_at w.nodes) number)
    c.self.view_is
    (all_are_read c.self.inside.nodes.items (heap_items c.self.inside.queue) c.self.invariant.queued
    c.in-None.ensures.item.3)
