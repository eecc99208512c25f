-- The changes between the files of the entries of one pair, and the step of a comparison; the proofs of the comparison
-- and the law `tree_changes_are_step_changes` use it.
use Rattle.std.proofs.Common.{◌≡◌, ◌⊎◌, ◌↔◌, ◌∙◌, inl, inr, ⊎_elim, ℕ, Bool, true, false, List, [], ◌∷◌, ◌++◌, ap, map, refl, subst, sym, Option, Some, None}
use Rattle.std.specs.Prelude.{IsFalse, MatchOption}
use Rattle.gix_object.specs.Entries.{EntryView}
use Rattle.gix_object.specs.Files.{Below, FileSet, Files, NamedFiles, Path, SameFiles, Table, is_null, resolves_to}
use Rattle.gix_object.specs.Mode.{is_tree_mode}
use Rattle.gix_object.specs.hash.hash.object_id.ObjectId.{ObjectId}
use Rattle.gixobj_listings.proofs.ChangesOfPairs.{ListsChange-append, ListsChange-left, ListsChange-right, differs_at_congruent, differs_at_of_left_alone}
use Rattle.gixobj_listings.proofs.ChangesOfPairs.{differs_at_of_right_alone, lists_change_of_with_name, lists_change_with_name, no_change_of_same_files}
use Rattle.gixobj_listings.specs.Changes.{AreChanges, ChangeView, DiffersAt, EntryPairView, FilesOfSide, HasName, IsChange, IsChangeOfPair, IsChangeOfPairs}
use Rattle.gixobj_listings.specs.Changes.{ListsChange, VersionView, addition, removal, side_unless_null, with_name_first}
use Rattle.gixobj_listings.specs.FileLists.{FileView, Lists}

-- ---- lists

lists_removal_of : (files : List FileView) (change : ChangeView) → ListsChange (map removal files) change
    → (old : VersionView) × (change ≡ record { path = change.path; before = Some old; after = None }) × Lists files change.path old.0 old.1
lists_removal_of [] change h = absurd h
lists_removal_of (f ∷ files) change (inl is) =
    subst (λ (c : ChangeView). (old : VersionView) × (c ≡ record { path = c.path; before = Some old; after = None }) × Lists (f ∷ files) c.path old.0 old.1) is
    ((f.mode, f.id), refl, inl (refl, refl, refl))
lists_removal_of (f ∷ files) change (inr h) = let rest = lists_removal_of files change h in (rest.0, rest.1, inr rest.2)

lists_removal_to : (files : List FileView) (path : Path) (mode : ℕ) (id : ObjectId) → Lists files path mode id
    → ListsChange (map removal files) (record { path = path; before = Some (mode, id); after = None })
lists_removal_to [] path mode id h = absurd h
lists_removal_to (f ∷ files) path mode id (inl q) = inl (λ i. record { path = sym q.0 i; before = Some (sym q.1 i, sym q.2 i); after = None })
lists_removal_to (f ∷ files) path mode id (inr h) = inr (lists_removal_to files path mode id h)

lists_addition_of : (files : List FileView) (change : ChangeView) → ListsChange (map addition files) change
    → (new : VersionView) × (change ≡ record { path = change.path; before = None; after = Some new }) × Lists files change.path new.0 new.1
lists_addition_of [] change h = absurd h
lists_addition_of (f ∷ files) change (inl is) =
    subst (λ (c : ChangeView). (new : VersionView) × (c ≡ record { path = c.path; before = None; after = Some new }) × Lists (f ∷ files) c.path new.0 new.1) is
    ((f.mode, f.id), refl, inl (refl, refl, refl))
lists_addition_of (f ∷ files) change (inr h) = let rest = lists_addition_of files change h in (rest.0, rest.1, inr rest.2)

lists_addition_to : (files : List FileView) (path : Path) (mode : ℕ) (id : ObjectId) → Lists files path mode id
    → ListsChange (map addition files) (record { path = path; before = None; after = Some (mode, id) })
lists_addition_to [] path mode id h = absurd h
lists_addition_to (f ∷ files) path mode id (inl q) = inl (λ i. record { path = sym q.0 i; before = None; after = Some (sym q.1 i, sym q.2 i) })
lists_addition_to (f ∷ files) path mode id (inr h) = inr (lists_addition_to files path mode id h)

-- ---- one entry, and none

-- sets of the same files have no changes
pub no_changes_of_same_files : (A B : FileSet) → SameFiles A B → AreChanges A B []
no_changes_of_same_files A B same change =
    ((λ h. absurd h), λ differ. absurd (no_change_of_same_files A B change.path (same change.path) change.before change.after differ))

-- changes are those of sets with the same files
pub are_changes_congruent : (A B C D : FileSet) → SameFiles A C → SameFiles B D → (changes : List ChangeView) → AreChanges A B changes → AreChanges C D changes
are_changes_congruent A B C D left right changes are change = (
  (λ h. differs_at_congruent A B C D change.path change.path (left change.path) (right change.path) change.before change.after ((are change).0 h)),
  λ differ. (are change).1 (differs_at_congruent C D A B change.path change.path (λ mode id. ((left change.path mode id).1, (left change.path mode id).0))
      (λ mode id. ((right change.path mode id).1, (right change.path mode id).0)) change.before change.after differ),
)

pub changes_of_removals : (T : Table) (n : ℕ) (e : EntryView) (files : List FileView) → SameFiles (Lists files) (Below T (Files T n) e.mode e.id)
    → AreChanges (FilesOfSide T n (Some e)) (FilesOfSide T n None) (map removal files)
changes_of_removals T n e files same change = (
  (λ h.
      let found = lists_removal_of files change h in
      subst (IsChange (FilesOfSide T n (Some e)) (FilesOfSide T n None)) (sym found.1)
      ((same change.path found.0.0 found.0.1).0 found.2, λ mode id no. no)),
  λ differ.
      let gone = differs_at_of_left_alone (FilesOfSide T n (Some e)) (FilesOfSide T n None) change.path (λ mode id no. no) change.before change.after differ in
      subst (ListsChange (map removal files)) (λ i. record { path = change.path; before = sym gone.1 i; after = sym gone.2 i })
      (lists_removal_to files change.path gone.0.0 gone.0.1 ((same change.path gone.0.0 gone.0.1).1 gone.3)),
)

pub changes_of_additions : (T : Table) (n : ℕ) (e : EntryView) (files : List FileView) → SameFiles (Lists files) (Below T (Files T n) e.mode e.id)
    → AreChanges (FilesOfSide T n None) (FilesOfSide T n (Some e)) (map addition files)
changes_of_additions T n e files same change = (
  (λ h.
      let found = lists_addition_of files change h in
      subst (IsChange (FilesOfSide T n None) (FilesOfSide T n (Some e))) (sym found.1)
      ((λ mode id no. no), (same change.path found.0.0 found.0.1).0 found.2)),
  λ differ.
      let new = differs_at_of_right_alone (FilesOfSide T n None) (FilesOfSide T n (Some e)) change.path (λ mode id no. no) change.before change.after differ in
      subst (ListsChange (map addition files)) (λ i. record { path = change.path; before = sym new.1 i; after = sym new.2 i })
      (lists_addition_to files change.path new.0.0 new.0.1 ((same change.path new.0.0 new.0.1).1 new.3)),
)

-- an entry with a null id has no files
pub files_of_side_unless_null : (T : Table) (n : ℕ) (side : Option EntryView) → SameFiles (FilesOfSide T n (side_unless_null side)) (FilesOfSide T n side)
files_of_side_unless_null T n None path mode id = ((λ h. h), λ h. h)
files_of_side_unless_null T n (Some e) path mode id = by_null (is_null e.id) refl
  where
    by_null : (b : Bool) → is_null e.id ≡ b → FilesOfSide T n (side_unless_null (Some e)) path mode id ↔ FilesOfSide T n (Some e) path mode id
    by_null true is =
        let gone : side_unless_null (Some e) ≡ None = rw is refl in
        ((λ h. absurd (subst (λ (side : Option EntryView). FilesOfSide T n side path mode id) gone h)), λ h. absurd (cc (is, h.0)))
    by_null false is =
        let kept : side_unless_null (Some e) ≡ Some e = rw is refl in
        let At : Option EntryView → Type 0 = λ side. FilesOfSide T n side path mode id in
        ((λ h. subst At kept h), λ h. subst At (sym kept) h)

-- ---- two entries

pub no_changes_of_equal_entries : (T : Table) (n : ℕ) (e f : EntryView) → e.mode ≡ f.mode → e.id ≡ f.id
    → AreChanges (FilesOfSide T n (Some e)) (FilesOfSide T n (Some f)) []
no_changes_of_equal_entries T n e f mode id =
    no_changes_of_same_files (FilesOfSide T n (Some e)) (FilesOfSide T n (Some f)) (λ path m i. rw (mode, id) ((λ h. h), λ h. h))

-- the files of a directory whose tree the table has are those of its id
files_of_directory : (T : Table) (n : ℕ) (e : EntryView) (es : List EntryView) → IsFalse (is_null e.id) → is_tree_mode e.mode ≡ true
    → T.tree_at e.id ≡ Some es → SameFiles (NamedFiles T n e.id) (FilesOfSide T n (Some e))
files_of_directory T n e es some is there path mode id =
    let known : resolves_to T e.mode e.id ≡ Some es = rw is there in
    let Named : Option (List EntryView) → Type 0 = λ found. MatchOption found ⊥ (λ fs. Files T n fs path mode id) in
    let At : Option (List EntryView) → Type 0 = λ found. MatchOption found ((path ≡ []) × (mode ≡ e.mode) × (id ≡ e.id)) (λ fs. Files T n fs path mode id) in
    ((λ h. (some, subst At (sym known) (subst Named there h))), λ h. subst Named (sym there) (subst At known h.1))

pub changes_of_directories : (T : Table) (n : ℕ) (e f : EntryView) (es fs : List EntryView) → IsFalse (is_null e.id) → IsFalse (is_null f.id)
    → is_tree_mode e.mode ≡ true → is_tree_mode f.mode ≡ true
    → T.tree_at e.id ≡ Some es → T.tree_at f.id ≡ Some fs → (changes : List ChangeView) → AreChanges (NamedFiles T n e.id) (NamedFiles T n f.id) changes
    → AreChanges (FilesOfSide T n (Some e)) (FilesOfSide T n (Some f)) changes
changes_of_directories T n e f es fs e_some f_some e_is f_is e_there f_there changes are =
    are_changes_congruent (NamedFiles T n e.id) (NamedFiles T n f.id) (FilesOfSide T n (Some e)) (FilesOfSide T n (Some f))
    (files_of_directory T n e es e_some e_is e_there) (files_of_directory T n f fs f_some f_is f_there) changes are

-- a file at an entry that is no directory is the entry itself
below_file_iff : (T : Table) (n : ℕ) (e : EntryView) → IsFalse (is_null e.id) → is_tree_mode e.mode ≡ false → (path : Path) (mode : ℕ) (id : ObjectId)
    → Below T (Files T n) e.mode e.id path mode id ↔ ((path ≡ []) × (mode ≡ e.mode) × (id ≡ e.id))
below_file_iff T n e some other path mode id =
    let unknown : resolves_to T e.mode e.id ≡ None = rw other refl in
    let At : Option (List EntryView) → Type 0 = λ found. MatchOption found ((path ≡ []) × (mode ≡ e.mode) × (id ≡ e.id)) (λ fs. Files T n fs path mode id) in
    ((λ h. subst At unknown h.1), λ h. (some, subst At (sym unknown) h))

module _ (T : Table) (n : ℕ) (e f : EntryView) (e_some : IsFalse (is_null e.id)) (f_some : IsFalse (is_null f.id)) (e_is : is_tree_mode e.mode ≡ false)
    (f_is : is_tree_mode f.mode ≡ false) (differ : e.mode ≡ f.mode → e.id ≡ f.id → ⊥) where
  two_files_differ : (path : Path) (before after : Option VersionView) → DiffersAt (FilesOfSide T n (Some e)) (FilesOfSide T n (Some f)) path before after
      → (path ≡ []) × (before ≡ Some (e.mode, e.id)) × (after ≡ Some (f.mode, f.id))
  two_files_differ path None None d = absurd d
  two_files_differ path (Some old) None (had, none) =
      let here = (below_file_iff T n e e_some e_is path old.0 old.1).0 had in
      absurd (none f.mode f.id ((below_file_iff T n f f_some f_is path f.mode f.id).1 (here.0, refl, refl)))
  two_files_differ path None (Some new) (none, has) =
      let here = (below_file_iff T n f f_some f_is path new.0 new.1).0 has in
      absurd (none e.mode e.id ((below_file_iff T n e e_some e_is path e.mode e.id).1 (here.0, refl, refl)))
  two_files_differ path (Some old) (Some new) (had, has, gone, fresh) =
      let was = (below_file_iff T n e e_some e_is path old.0 old.1).0 had in
      let is = (below_file_iff T n f f_some f_is path new.0 new.1).0 has in
      (was.0, (λ i. Some (was.1 i, was.2 i)), λ i. Some (is.1 i, is.2 i))

  -- two different files are one change
  pub changes_of_two_files :
      AreChanges (FilesOfSide T n (Some e)) (FilesOfSide T n (Some f)) (record { path = []; before = Some (e.mode, e.id); after = Some (f.mode, f.id) } ∷ [])
  changes_of_two_files change = (
    (λ h. ⊎_elim
        (λ is. subst (IsChange (FilesOfSide T n (Some e)) (FilesOfSide T n (Some f))) is (
          (below_file_iff T n e e_some e_is [] e.mode e.id).1 (refl, refl, refl),
          (below_file_iff T n f f_some f_is [] f.mode f.id).1 (refl, refl, refl),
          (λ still. let same = (below_file_iff T n f f_some f_is [] e.mode e.id).0 still in differ same.1 same.2),
          λ was. let same = (below_file_iff T n e e_some e_is [] f.mode f.id).0 was in differ (sym same.1) (sym same.2),
        ))
        (λ no. absurd no) h),
    λ d. let is = two_files_differ change.path change.before change.after d in
        inl (λ i. record { path = sym is.0 i; before = sym is.1 i; after = sym is.2 i }),
  )

-- ---- one more pair

changes_left : (T : Table) (n : ℕ) (pairs more : List EntryPairView) (change : ChangeView) → IsChangeOfPairs T n pairs change
    → IsChangeOfPairs T n (pairs ++ more) change
changes_left T n [] more change h = absurd h
changes_left T n (pair ∷ pairs) more change (inl is) = inl is
changes_left T n (pair ∷ pairs) more change (inr h) = inr (changes_left T n pairs more change h)

changes_right : (T : Table) (n : ℕ) (pairs more : List EntryPairView) (change : ChangeView) → IsChangeOfPairs T n more change
    → IsChangeOfPairs T n (pairs ++ more) change
changes_right T n [] more change h = h
changes_right T n (pair ∷ pairs) more change h = inr (changes_right T n pairs more change h)

changes_cases : (T : Table) (n : ℕ) (pairs more : List EntryPairView) (change : ChangeView) → IsChangeOfPairs T n (pairs ++ more) change
    → IsChangeOfPairs T n pairs change ⊎ IsChangeOfPairs T n more change
changes_cases T n [] more change h = inr h
changes_cases T n (pair ∷ pairs) more change (inl is) = inl (inl is)
changes_cases T n (pair ∷ pairs) more change (inr h) = ⊎_elim (λ k. inl (inr k)) inr (changes_cases T n pairs more change h)

-- a pair has one name
one_name : (pair : EntryPairView) (name other : List ℕ) → HasName name pair → HasName other pair → name ≡ other
one_name (None, None) name other called also = absurd called
one_name (Some e, None) name other called also = sym called ∙ also
one_name (None, Some e) name other called also = sym called ∙ also
one_name (Some e, Some f) name other called also = sym called.0 ∙ also.0

-- the changes of a pair, with its name before their paths, are those of the pair in the list
pub changes_snoc : (T : Table) (n : ℕ) (pairs : List EntryPairView) (pair : EntryPairView) (name : List ℕ) (changes below : List ChangeView) → HasName name pair
    → ((change : ChangeView) → ListsChange changes change ↔ IsChangeOfPairs T n pairs change)
    → AreChanges (FilesOfSide T n pair.0) (FilesOfSide T n pair.1) below
    → (change : ChangeView) → ListsChange (changes ++ map (with_name_first name) below) change ↔ IsChangeOfPairs T n (pairs ++ pair ∷ []) change
changes_snoc T n pairs pair name changes below called so_far at change = (
  (λ h. ⊎_elim (λ k. changes_left T n pairs (pair ∷ []) change ((so_far change).0 k)) (λ k. changes_right T n pairs (pair ∷ []) change (inl (of_below k)))
      (ListsChange-append changes (map (with_name_first name) below) change h)),
  λ h. ⊎_elim (λ k. ListsChange-left changes (map (with_name_first name) below) change ((so_far change).1 k))
      (λ k. ListsChange-right changes (map (with_name_first name) below) change (⊎_elim to_below (λ no. absurd no) k))
      (changes_cases T n pairs (pair ∷ []) change h),
)
  where
    of_below : ListsChange (map (with_name_first name) below) change → IsChangeOfPair T n pair change
    of_below k =
        let found = lists_change_of_with_name name below change k in
        subst (IsChangeOfPair T n pair) found.1 (name, found.0.path, called, refl, (at found.0).0 found.2)

    to_below : IsChangeOfPair T n pair change → ListsChange (map (with_name_first name) below) change
    to_below (other, path, other_called, is, differ) =
        let same : other ≡ name = one_name pair other name other_called called in
        let inner : ListsChange below (record { path = path; before = change.before; after = change.after }) =
        (at (record { path = path; before = change.before; after = change.after })).1 differ in
        subst (ListsChange (map (with_name_first name) below))
        (λ i. record { path = (sym (is ∙ ap (λ (first : List ℕ). first ∷ path) same)) i; before = change.before; after = change.after })
        (lists_change_with_name name below (record { path = path; before = change.before; after = change.after }) inner)
