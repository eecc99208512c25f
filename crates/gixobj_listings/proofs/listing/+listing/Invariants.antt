-- The files of the entries so far, in order; their directories are read.
use Rattle.std.proofs.Common.{◌+◌, ◌*◌, ◌≤◌, ℕ, take}
use Rattle.std.specs.List.{AllByRecursion}
use Rattle.gix_object.specs.Entries.{EntryView}
use Rattle.gix_object.specs.Files.{ContainsEntry, Files, SameFiles, Table, Trees}
use Rattle.gix_object.specs.Openings.{AreTreesOf}
use Rattle.gix_object.specs.Tables.{AgreesWithStore}
use Rattle.gixobj_listings.specs.FileLists.{AreInOrder, Lists}
use Rattle.gixobj_listings.specs.Listings.{AreReadBelow}
use Rattle.gixobj_listings.proofs.FileListings.{StartsIn}
use Rattle.gixobj_listings.proofs.listing.+listing.Given as goal

abbrev pub decreases-files_of : goal.decreases-files_of
decreases-files_of g l = 2 * l.depth

abbrev pub decreases-files_at : goal.decreases-files_at
decreases-files_at g l = 2 * l.depth + 1

abbrev pub invariant-files_of-loop-entry : goal.invariant-files_of-loop-entry
invariant-files_of-loop-entry g l = record {
  files : (trees : Trees) → AreTreesOf (g.S.Store.objects l.store) trees → (T : Table) (n : ℕ) → AgreesWithStore T trees → l.depth ≤ n
      → SameFiles (Lists l.files.items) (Files T n (take l.entry-index l.entry-items));
  ordered : AreInOrder l.files.items;
  starts : AllByRecursion (StartsIn l.depth (take l.entry-index l.entry-items)) l.files.items;
  read : (e : EntryView) → ContainsEntry (take l.entry-index l.entry-items) e → AreReadBelow (g.S.Store.objects l.store) e;
}
