use Rattle.std.proofs.Common.{◌≡◌, ◌≤◌, ◌<◌, ◌^◌, take, length}
use Rattle.gixobj_tree.specs.TreeEncoding.{encode_tree}
use Rattle.gixobj_tree.specs.TreeSizes.{with_ids}
use Rattle.gixobj_tree.proofs.tree.write.TreeWriteTo.size.Given as goal

abbrev pub invariant-loop-entry : goal.invariant-loop-entry
invariant-loop-entry l = (with_ids l.size l.entry-index l.longer ≡ length (encode_tree (take l.entry-index l.entry-items))) × (l.longer ≤ l.entry-index)
    × (l.entry-items ≡ l.self) × (l.size < 2 ^ 64)
