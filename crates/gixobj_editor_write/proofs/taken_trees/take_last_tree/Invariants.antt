use Rattle.std.proofs.Common.{◌≡◌, ◌≤◌, ◌+◌, ◌++◌, length}
use Rattle.std.specs.Prelude.{reverse, vec_capacity, vec_len}
use Rattle.gixobj_editor_open.specs.LeafTrees.{waiting_trees}
use Rattle.gixobj_editor_write.proofs.taken_trees.take_last_tree.Given as goal

abbrev pub decreases-loop-directory : goal.decreases-loop-directory
decreases-loop-directory l = length l.current

-- the trees that were taken, followed by those of the remaining directories, the last first, are those of all
abbrev pub invariant-loop-directory : goal.invariant-loop-directory
invariant-loop-directory l = record {
  taken : l.trees.items ++ reverse (waiting_trees l.waiting l.current) ≡ l.fn.trees.items ++ reverse (waiting_trees l.fn.rest l.fn.last);
  room : vec_len l.trees + length (waiting_trees l.waiting l.current) ≤ vec_capacity l.trees;
  capacity : vec_capacity l.fn.trees ≤ vec_capacity l.trees;
  sizes : length l.waiting + length l.current ≡ length l.fn.rest + length l.fn.last;
}
