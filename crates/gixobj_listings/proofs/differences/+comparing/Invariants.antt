-- The changes of the pairs so far, in order; the entries that remain make the other pairs.
use Rattle.std.proofs.Common.{◌+◌, ◌*◌, ◌++◌, ◌≤◌, ◌↔◌, ℕ, List, length}
use Rattle.std.specs.List.{AllByRecursion}
use Rattle.gix_object.specs.Entries.{EntryView}
use Rattle.gix_object.specs.Files.{ContainsEntry, Table, Trees}
use Rattle.gix_object.specs.KeyOrder.{ComesBefore}
use Rattle.gix_object.specs.Openings.{AreTreesOf}
use Rattle.gix_object.specs.Tables.{AgreesWithStore}
use Rattle.gix_object.specs.WellFormed.{EachLater}
use Rattle.gixobj_listings.specs.Changes.{AreChangesInOrder, ChangeView, EntryPairView, HaveNames, IsChangeOfPairs, IsPairBefore, ListsChange, Merges}
use Rattle.gixobj_listings.specs.Differences.{IsReadIfAlone}
use Rattle.gixobj_listings.proofs.ChangesOfPairs.{StartsInPair}
use Rattle.gixobj_listings.proofs.differences.+comparing.Given as goal

abbrev pub decreases-opened_changes : goal.decreases-opened_changes
decreases-opened_changes g l = 3 * l.depth

abbrev pub decreases-changes_at : goal.decreases-changes_at
decreases-changes_at g l = 3 * l.depth + 2

abbrev pub decreases-changes_between : goal.decreases-changes_between
decreases-changes_between g l = 3 * l.depth + 1

abbrev pub decreases-opened_changes-loop-pair : goal.decreases-opened_changes-loop-pair
decreases-opened_changes-loop-pair g l = length l.left + length l.right

abbrev pub invariant-opened_changes-loop-pair : goal.invariant-opened_changes-loop-pair
invariant-opened_changes-loop-pair g l = record {
  left_of : (e : EntryView) → ContainsEntry l.left e → ContainsEntry l.initial.left e;
  right_of : (e : EntryView) → ContainsEntry l.right e → ContainsEntry l.initial.right e;
  left_names : HaveNames l.left;
  right_names : HaveNames l.right;
  left_order : EachLater ComesBefore l.left;
  right_order : EachLater ComesBefore l.right;
  merged : (pairs : List EntryPairView) × ((more : List EntryPairView) → Merges l.left l.right more → Merges l.initial.left l.initial.right (pairs ++ more))
      × AllByRecursion (IsReadIfAlone (g.S.Store.objects l.store)) pairs
      × AllByRecursion (IsPairBefore (l.left ++ l.right)) pairs
      × AllByRecursion (StartsInPair pairs) l.changes.items
      × ((trees : Trees) → AreTreesOf (g.S.Store.objects l.store) trees → (T : Table) (n : ℕ) → AgreesWithStore T trees → l.depth ≤ n + 1
      → (change : ChangeView) → ListsChange l.changes.items change ↔ IsChangeOfPairs T n pairs change);
  ordered : AreChangesInOrder l.changes.items;
}
