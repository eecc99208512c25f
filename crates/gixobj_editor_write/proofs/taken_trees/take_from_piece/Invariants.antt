use Rattle.std.proofs.Common.{◌≡◌, ◌≢◌, ◌≤◌, ◌+◌, ◌++◌, length}
use Rattle.std.specs.Prelude.{reverse, vec_capacity, vec_len}
use Rattle.gixobj_tree.specs.WellFormed.{EachLater}
use Rattle.gixobj_editor_open.specs.Nested.{below, parts}
use Rattle.gixobj_editor_open.specs.LeafTrees.{leaf_trees}
use Rattle.gixobj_editor_write.proofs.taken_trees.take_from_piece.Given as goal

abbrev pub decreases-loop-child : goal.decreases-loop-child
decreases-loop-child l = length l.children.items

-- the trees that were taken, followed by those of the remaining directories, the last first, are those of all
abbrev pub invariant-loop-child : goal.invariant-loop-child
invariant-loop-child l = record {
  taken : l.trees.items ++ reverse (leaf_trees (below (parts l.children.items))) ≡ l.fn.trees.items ++ reverse (leaf_trees (below (parts l.fn.children.items)));
  room : vec_len l.trees + length (leaf_trees (below (parts l.children.items))) ≤ vec_capacity l.trees;
  apart : EachLater (λ x y. x.0 ≢ y.0) (parts l.children.items);
  capacity : vec_capacity l.fn.trees ≤ vec_capacity l.trees;
}
