use Rattle.std.proofs.Common.{◌≡◌, ◌≤◌, ◌+◌, ◌++◌, length}
use Rattle.std.specs.Prelude.{reverse, vec_capacity, vec_len}
use Rattle.gixobj_editor_open.specs.LeafTrees.{inside_of, leaf_trees}
use Rattle.gixobj_editor_write.proofs.taken_trees.take_leaf_tree.Given as goal

abbrev pub decreases-loop-rest : goal.decreases-loop-rest
decreases-loop-rest l = length l.waiting

-- the trees that were taken, followed by those below the directory that waits, the last first, are those of all
abbrev pub invariant-loop-rest : goal.invariant-loop-rest
invariant-loop-rest l = record {
  taken : l.trees.items ++ reverse (leaf_trees (inside_of l.waiting)) ≡ l.fn.trees.items ++ reverse (leaf_trees l.fn.node);
  room : vec_len l.trees + length (leaf_trees (inside_of l.waiting)) ≤ vec_capacity l.trees;
  capacity : vec_capacity l.fn.trees ≤ vec_capacity l.trees;
}
