use Rattle.std.proofs.Common.{All, take}
use Rattle.gixobj_walks_known.specs.Known.{IsKnownEntry}
use Rattle.gixobj_walks_known.proofs.graph.are_known.Given as goal

abbrev pub invariant-loop-node : goal.invariant-loop-node
invariant-loop-node l = All (IsKnownEntry l.count) (take l.node-index l.nodes)
