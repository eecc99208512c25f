use Rattle.std.proofs.Common.{◌≡◌, ◌++◌, List, drop, take}
use Rattle.std.specs.Prelude.{reverse}
use Rattle.gixobj_tree_entries.specs.Entries.{Pair}
use Rattle.gixobj_editor_write.specs.TakenTrees.{Fills}
use Rattle.gixobj_editor_write.proofs.taken_trees.fill.Given as goal

-- the pairs so far, followed by what the remaining trees make of the remaining pairs, are all pairs
abbrev pub invariant-loop-pair : goal.invariant-loop-pair
invariant-loop-pair l = (all : List Pair) → Fills l.fn.pairs (reverse l.fn.trees.items) all → (more : List Pair) × (all ≡ take l.pair-index l.pairs ++ more)
    × Fills (drop l.pair-index l.pairs) (reverse l.trees.items) more
