-- The changes between a store's trees, in each table that agrees with the store: the returns and the step of `changes`,
-- for the proofs of the comparison.
use Rattle.std.proofs.Common.{◌≡◌, ◌≢◌, ◌⊎◌, ◌↔◌, ◌+◌, ◌≤◌, ℕ, zero, suc, true, false, List, [], ◌∷◌, arith, map, subst, inl, inr, Option, Some, None}
use Rattle.std.specs.List.{AllByRecursion}
use Rattle.std.specs.Prelude.{IsFalse}
use Rattle.gix_object.specs.Entries.{EntryView}
use Rattle.gix_object.specs.Files.{Files, NamedFiles, Table, Trees, is_null}
use Rattle.gix_object.specs.Mode.{is_tree_mode}
use Rattle.gix_object.specs.Openings.{AreTreesOf}
use Rattle.gix_object.specs.Stores.{Objects}
use Rattle.gix_object.specs.Tables.{AgreesWithStore}
use Rattle.gix_object.specs.hash.hash.object_id.ObjectId.{ObjectId}
use Rattle.gixobj_listings.proofs.ChangesOfPairs.{HasTreeIfDirectory, change_of_pairs_iff}
use Rattle.gixobj_listings.proofs.EntryPairs.{IsAmongPairs}
use Rattle.gix_object.proofs.Files.{same_files_refl}
use Rattle.gixobj_listings.proofs.PairChanges.{are_changes_congruent, changes_of_additions, changes_of_directories, changes_of_removals, changes_of_two_files}
use Rattle.gixobj_listings.proofs.PairChanges.{files_of_side_unless_null, no_changes_of_equal_entries, no_changes_of_same_files}
use Rattle.gixobj_listings.proofs.Rooted.{root_named, root_there}
use Rattle.gixobj_listings.proofs.Unread.{has_tree_of_read}
use Rattle.gixobj_listings.specs.Changes.{ChangeView, EntryPairView, FilesOfSide, IsChangeOfPairs, ListsChange, Merges, addition, removal, side_unless_null}
use Rattle.gixobj_listings.specs.Differences.{IsReadIfAlone, HasChanges, HasChangesAt}
use Rattle.gixobj_listings.specs.FileLists.{FileView}
use Rattle.gixobj_listings.specs.Listings.{HasFilesAt, IsRead}
use Rattle.gixobj_listings.specs.Roots.{IsRoot}

-- ---- the changes at a pair

pub has_changes_at_unless_null : (objects : Objects) (depth : ℕ) (before after : Option EntryView) (changes : List ChangeView)
    → HasChangesAt objects depth (side_unless_null before, side_unless_null after) changes
    → HasChangesAt objects depth (before, after) changes
has_changes_at_unless_null objects depth before after changes are trees fits T n agrees le =
    are_changes_congruent (FilesOfSide T n (side_unless_null before)) (FilesOfSide T n (side_unless_null after)) (FilesOfSide T n before)
    (FilesOfSide T n after)
    (files_of_side_unless_null T n before) (files_of_side_unless_null T n after) changes (are trees fits T n agrees le)

pub has_changes_at_nothing : (objects : Objects) (depth : ℕ) → HasChangesAt objects depth (None, None) []
has_changes_at_nothing objects depth trees fits T n agrees le =
    no_changes_of_same_files (FilesOfSide T n None) (FilesOfSide T n None) (same_files_refl (FilesOfSide T n None))

pub has_changes_at_removed : (objects : Objects) (depth : ℕ) (e : EntryView) (files : List FileView) → HasFilesAt objects depth e files
    → HasChangesAt objects depth (Some e, None) (map removal files)
has_changes_at_removed objects depth e files same trees fits T n agrees le = changes_of_removals T n e files (same trees fits T n agrees le)

pub has_changes_at_added : (objects : Objects) (depth : ℕ) (e : EntryView) (files : List FileView) → HasFilesAt objects depth e files
    → HasChangesAt objects depth (None, Some e) (map addition files)
has_changes_at_added objects depth e files same trees fits T n agrees le = changes_of_additions T n e files (same trees fits T n agrees le)

pub has_changes_at_equal : (objects : Objects) (depth : ℕ) (e f : EntryView) → e.mode ≡ f.mode → e.id ≡ f.id → HasChangesAt objects depth (Some e, Some f) []
has_changes_at_equal objects depth e f mode id trees fits T n agrees le = no_changes_of_equal_entries T n e f mode id

pub has_changes_at_files : (objects : Objects) (depth : ℕ) (e f : EntryView) → IsFalse (is_null e.id) → IsFalse (is_null f.id) → is_tree_mode e.mode ≡ false
    → is_tree_mode f.mode ≡ false → (e.mode ≡ f.mode → e.id ≡ f.id → ⊥)
    → HasChangesAt objects depth (Some e, Some f) (record { path = []; before = Some (e.mode, e.id); after = Some (f.mode, f.id) } ∷ [])
has_changes_at_files objects depth e f e_some f_some e_is f_is differ trees fits T n agrees le = changes_of_two_files T n e f e_some f_some e_is f_is differ

module _ (same_or_not : (x y : ObjectId) → (x ≡ y) ⊎ (x ≢ y)) (objects : Objects) where
  tree_of_read : (T : Table) (trees : Trees) → AreTreesOf objects trees → AgreesWithStore T trees → (id : ObjectId) → IsRead objects id → IsFalse (is_null id)
      → (es : List EntryView) × (T.tree_at id ≡ Some es)
  tree_of_read T trees fits agrees id read some = (read.0, root_there same_or_not T objects trees id read.0 some fits agrees read.1)

  pub has_changes_at_directories : (depth : ℕ) (e f : EntryView) (changes : List ChangeView) → IsFalse (is_null e.id) → IsFalse (is_null f.id)
      → is_tree_mode e.mode ≡ true → is_tree_mode f.mode ≡ true → IsRead objects e.id → IsRead objects f.id
      → HasChanges objects depth e.id f.id changes
      → HasChangesAt objects depth (Some e, Some f) changes
  has_changes_at_directories depth e f changes e_some f_some e_is f_is e_read f_read are trees fits T n agrees le =
      let before = tree_of_read T trees fits agrees e.id e_read e_some in
      let after = tree_of_read T trees fits agrees f.id f_read f_some in
      changes_of_directories T n e f before.0 after.0 e_some f_some e_is f_is before.1 after.1 changes (are trees fits T n agrees le)

  -- ---- the changes of two roots

  alone_left : (pairs : List EntryPairView) → AllByRecursion (IsReadIfAlone objects) pairs → (T : Table) (trees : Trees) → AreTreesOf objects trees
      → AgreesWithStore T trees → (e : EntryView) → IsAmongPairs pairs (Some e, None)
      → HasTreeIfDirectory T e
  alone_left [] all T trees fits agrees e among = absurd among
  alone_left (pair ∷ pairs) all T trees fits agrees e (inl is) =
      has_tree_of_read same_or_not T objects trees fits agrees e (subst (IsReadIfAlone objects) is all.0)
  alone_left (pair ∷ pairs) all T trees fits agrees e (inr among) = alone_left pairs all.1 T trees fits agrees e among

  alone_right : (pairs : List EntryPairView) → AllByRecursion (IsReadIfAlone objects) pairs → (T : Table) (trees : Trees) → AreTreesOf objects trees
      → AgreesWithStore T trees → (e : EntryView) → IsAmongPairs pairs (None, Some e)
      → HasTreeIfDirectory T e
  alone_right [] all T trees fits agrees e among = absurd among
  alone_right (pair ∷ pairs) all T trees fits agrees e (inl is) =
      has_tree_of_read same_or_not T objects trees fits agrees e (subst (IsReadIfAlone objects) is all.0)
  alone_right (pair ∷ pairs) all T trees fits agrees e (inr among) = alone_right pairs all.1 T trees fits agrees e among

  -- the changes of the pairs of two roots are those between the trees
  pub has_changes_of_roots : (depth : ℕ) → depth ≢ 0 → (from to : ObjectId) (before after : List EntryView) → IsRoot objects from before
      → IsRoot objects to after
      → (pairs : List EntryPairView) → Merges before after pairs → AllByRecursion (IsReadIfAlone objects) pairs
      → (changes : List ChangeView)
      → ((trees : Trees) → AreTreesOf objects trees → (T : Table) (n : ℕ) → AgreesWithStore T trees → depth ≤ n + 1
      → (change : ChangeView) → ListsChange changes change ↔ IsChangeOfPairs T n pairs change)
      → IsFalse (is_null from) → IsFalse (is_null to)
      → HasChanges objects depth from to changes
  has_changes_of_roots depth some from to before after is also pairs merged alone changes are from_some to_some trees fits T zero agrees le =
      absurd (some (omega (arith, le)))
  has_changes_of_roots depth some from to before after is also pairs merged alone changes are from_some to_some trees fits T (suc n) agrees le =
      are_changes_congruent (Files T (suc n) before) (Files T (suc n) after) (NamedFiles T (suc n) from) (NamedFiles T (suc n) to)
      (root_named same_or_not T objects trees from before from_some fits agrees is (suc n))
      (root_named same_or_not T objects trees to after to_some fits agrees also (suc n)) changes
      (λ change. iff_trans ((are trees fits T n agrees (omega (arith, le))) change)
      (change_of_pairs_iff T n before after pairs is.well_formed also.well_formed merged (alone_left pairs alone T trees fits agrees)
      (alone_right pairs alone T trees fits agrees) change))
    where
      iff_trans : {A B C : Type 0} → A ↔ B → B ↔ C → A ↔ C
      iff_trans one other = ((λ a. other.0 (one.0 a)), λ c. one.1 (other.1 c))
