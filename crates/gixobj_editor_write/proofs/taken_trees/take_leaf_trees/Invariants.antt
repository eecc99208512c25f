use Rattle.std.proofs.Common.{◌≡◌, ◌≢◌, ◌≤◌, ◌+◌, ◌++◌, length}
use Rattle.std.specs.Prelude.{reverse, vec_capacity, vec_len}
use Rattle.std.specs.declared.alloc.Global.{Global}
use Rattle.std.specs.declared.vec.Vec.{Vec}
use Rattle.gixobj_tree.specs.WellFormed.{EachLater}
use Rattle.gixobj_editor_entries.specs.Pieces.{joined}
use Rattle.gixobj_editor_open.specs.declared.open.Child.{Child}
use Rattle.gixobj_editor_open.specs.Nested.{below, child_list, parts}
use Rattle.gixobj_editor_open.specs.LeafTrees.{leaf_trees}
use Rattle.gixobj_editor_write.proofs.taken_trees.take_leaf_trees.Given as goal

abbrev pub decreases-loop-piece : goal.decreases-loop-piece
decreases-loop-piece l = length l.more.items

-- the trees that were taken, followed by those of the remaining directories, the last first, are those of all
abbrev pub invariant-loop-piece : goal.invariant-loop-piece
invariant-loop-piece l = record {
  taken : l.trees.items ++ reverse (leaf_trees (below (parts (joined (λ (p : Vec Child Global). p.items) l.first.items l.more.items))))
      ≡ l.fn.trees.items ++ reverse (leaf_trees (below (parts (child_list l.fn.children))));
  room : vec_len l.trees + length (leaf_trees (below (parts (joined (λ (p : Vec Child Global). p.items) l.first.items l.more.items))))
      ≤ vec_capacity l.trees;
  apart : EachLater (λ x y. x.0 ≢ y.0) (parts (joined (λ (p : Vec Child Global). p.items) l.first.items l.more.items));
  capacity : vec_capacity l.fn.trees ≤ vec_capacity l.trees;
}
