use Rattle.std.proofs.Common.{subst}
use Rattle.gixobj_walks_graph.specs.Numbered.{Nodes}
use Rattle.gixobj_walks_marks.specs.Readings.{AddsStart, ReadingView}
use Rattle.gixobj_walks_marks.proofs.reading.Reading.mark_right.Goals as goal

pub returns-clause-right : goal.returns-clause-right
returns-clause-right c =
    subst (λ (w : ReadingView). AddsStart w.nodes c.args.start w.right c.mark_start.new.marked.items) c.self.view_is
    (subst (λ (xs : Nodes). AddsStart xs c.args.start c.self.inside.right.items c.mark_start.new.marked.items)
    c.deref.ensures.value c.in_ok-mark_start.ensures.added)
