use Rattle.std.proofs.Common.{take}
use Rattle.gixobj_walks_graph.specs.Numbered.{IsClosed}
use Rattle.gixobj_walks_marks.specs.Spreading.{MarksReached}
use Rattle.gixobj_walks_marks.proofs.passing.mark_all_reached.Given as goal

abbrev pub invariant-loop-start : goal.invariant-loop-start
invariant-loop-start l = record {
  marks : MarksReached l.nodes (take l.start-index l.starts) l.initial.marked l.marked;
  closed : IsClosed l.nodes l.marked;
}
