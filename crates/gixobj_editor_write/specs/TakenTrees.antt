-- Leaf trees that are moved to the pairs of a write after its last call, and what they add to the pairs.
use Rattle.std.specs.Prelude.{◌≡◌, ◌≢◌, ◌⊎◌, List, [], ◌∷◌, ◌++◌, Option, Some, None}
use Rattle.gixobj_tree_entries.specs.Entries.{EntryView, Pair}
use Rattle.gixobj_editor_open.specs.LeafTrees.{leaf_trees}
use Rattle.gixobj_editor_open.specs.declared.open.Child.{Child}

-- the leaf trees of a child, if there is one
abbrev pub child_leaf_trees : Option Child → List (List EntryView)
child_leaf_trees None = []
child_leaf_trees (Some c) = leaf_trees c.open

-- pairs in which these trees replace the empty ones, one after the other
abbrev pub Fills : List Pair → List (List EntryView) → List Pair → Type 0
Fills [] trees pairs = (trees ≡ []) × (pairs ≡ [])
Fills (pair ∷ rest) trees pairs =
    ((more : List Pair) × (pair.1 ≢ []) × (pairs ≡ pair ∷ more) × Fills rest trees more)
    ⊎ ((tree : List EntryView) × (remaining : List (List EntryView)) × (more : List Pair) × (pair.1 ≡ [])
    × (trees ≡ tree ∷ remaining) × (pairs ≡ (pair.0, tree) ∷ more) × Fills rest remaining more)

-- the pairs that were appended are these pairs, once the trees replace the empty ones
abbrev pub Adds : List Pair → List Pair → List (List EntryView) → List Pair → Type 0
Adds old new trees pairs = (appended : List Pair) × (new ≡ old ++ appended) × Fills appended trees pairs
