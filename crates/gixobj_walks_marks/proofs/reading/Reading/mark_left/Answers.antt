use Rattle.std.proofs.Common.{subst}
use Rattle.gixobj_walks_graph.specs.Numbered.{Nodes}
use Rattle.gixobj_walks_marks.specs.Readings.{AddsStart, ReadingView}
use Rattle.gixobj_walks_marks.proofs.reading.Reading.mark_left.Goals as goal

pub returns-clause-left : goal.returns-clause-left
returns-clause-left c =
    subst (λ (w : ReadingView). AddsStart w.nodes c.args.start w.left c.mark_start.new.marked.items) c.self.view_is
    (subst (λ (xs : Nodes). AddsStart xs c.args.start c.self.inside.left.items c.mark_start.new.marked.items)
    c.deref.ensures.value c.in_ok-mark_start.ensures.added)
