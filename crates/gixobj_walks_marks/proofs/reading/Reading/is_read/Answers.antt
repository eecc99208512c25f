use Rattle.std.proofs.Common.{◌↔◌, ◌<◌, IsTrue, length, refl, subst, sym}
use Rattle.std.proofs.lemmas.Option.{slice_get_read}
use Rattle.gixobj_walks_graph.specs.Graph.{IsRead}
use Rattle.gixobj_walks_graph.specs.Numbered.{graph_at}
use Rattle.gixobj_walks_marks.specs.Readings.{ReadingView}
use Rattle.gixobj_walks_marks.proofs.Kept.{read_test}
use Rattle.gixobj_walks_marks.proofs.reading.Reading.is_read.Goals as goal

pub returns : goal.returns
returns c =
    let inside : c.args.number < length c.self.inside.nodes.items =
    subst (λ (w : ReadingView). c.args.number < length w.nodes) (sym c.self.view_is) c.requires in
    subst (λ (w : ReadingView). IsTrue c.is_some.result ↔ IsRead (graph_at w.nodes) c.args.number) c.self.view_is
    (read_test c.self.inside.nodes.items c.args.number c.index.result.now
    (slice_get_read c.self.inside.nodes.items (length c.self.inside.nodes.items) c.args.number
    c.index.result.now refl inside c.index.ensures)
    c.is_some.result c.is_some.ensures)
