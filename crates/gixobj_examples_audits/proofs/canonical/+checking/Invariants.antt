-- The entries so far are canonical.
use Rattle.std.proofs.Common.{◌+◌, ◌*◌, ◌-◌, take}
use Rattle.std.specs.List.{AllByRecursion}
use Rattle.gix_object.specs.Files.{Trees}
use Rattle.gix_object.specs.Openings.{AreTreesOf}
use Rattle.gixobj_examples_audits.specs.Canonical.{IsCanonicalTree, IsCanonicalEntry}
use Rattle.gixobj_examples_audits.proofs.canonical.+checking.Given as goal

abbrev pub decreases-is_canonical_tree : goal.decreases-is_canonical_tree
decreases-is_canonical_tree g l = 2 * l.depth

abbrev pub decreases-is_canonical_entry : goal.decreases-is_canonical_entry
decreases-is_canonical_entry g l = 2 * l.depth + 1

abbrev pub invariant-is_canonical_tree-loop-entry : goal.invariant-is_canonical_tree-loop-entry
invariant-is_canonical_tree-loop-entry g l = (trees : Trees) → AreTreesOf (g.S.Store.objects l.store) trees
    → AllByRecursion (IsCanonicalEntry trees l.hash (IsCanonicalTree trees l.hash (l.depth - 1))) (take l.entry-index l.entry-items)
