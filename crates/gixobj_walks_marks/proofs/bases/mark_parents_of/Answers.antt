use Rattle.std.proofs.Common.{◌<◌, arith, length}
use Rattle.gixobj_walks_graph.specs.Graph.{HasParent}
use Rattle.gixobj_walks_graph.specs.Numbered.{IsMarked, graph_at}
use Rattle.gixobj_walks_marks.proofs.Marked.{read_marked, read_unmarked}
use Rattle.gixobj_walks_marks.proofs.SharedMarks.{adds_none, adds_parents}
use Rattle.gixobj_walks_marks.proofs.bases.mark_parents_of.Goals as goal

pub returns-then-not-side-number : goal.returns-then-not-side-number
returns-then-not-side-number c =
    adds_none (λ parent. IsMarked c.args.side.now c.args.number
    × HasParent (graph_at c.args.nodes.now) c.args.number parent)
    c.args.marked.now.items
    (λ parent both. read_unmarked c.args.side.now c.args.number c.if-not-side-number.true both.0)

pub returns : goal.returns
returns c =
    let inside : c.args.number < length c.args.side.now = omega (arith, c.requires.number, c.requires.side) in
    adds_parents c.args.nodes.now c.args.side.now c.args.marked.now.items c.mark_known_parents.new.marked.items
    c.args.number (read_marked c.args.side.now c.args.number inside c.if-not-side-number.false)
    c.mark_known_parents.ensures
