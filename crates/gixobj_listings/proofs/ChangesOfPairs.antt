-- The changes of pairs of entries are those between the files of the trees of these entries; the proofs of the
-- comparison use it.
use Rattle.std.proofs.Common.{◌≡◌, ◌⊎◌, ◌↔◌, ◌∙◌, inl, inr, ⊎_elim, ℕ, zero, suc, Bool, true, false, List, [], ◌∷◌, ◌++◌, ap, map, refl, subst, sym, Option}
use Rattle.std.proofs.Common.{Some, None}
use Rattle.std.specs.List.{AllByRecursion}
use Rattle.std.specs.Prelude.{IsFalse, MatchOption}
use Rattle.gix_object.specs.Entries.{EntryView}
use Rattle.gix_object.specs.Files.{Below, ContainsEntry, FileSet, Files, Path, Table, is_null, resolves_to}
use Rattle.gix_object.specs.Mode.{is_tree_mode}
use Rattle.gix_object.specs.WellFormed.{AreApart, IsEntryName, IsWellFormed}
use Rattle.gix_object.specs.hash.hash.object_id.ObjectId.{ObjectId}
use Rattle.gixobj_listings.proofs.EntryPairs.{IsAmongPairs, alike_have_equal_keys, equal_keys_are_alike, equal_keys_are_one_pair, has_pair_of_left}
use Rattle.gixobj_listings.proofs.EntryPairs.{has_pair_of_right, pair_has_one_key, pair_of_left_is_unique, pair_of_right_is_unique, sides_of_pair}
use Rattle.gixobj_listings.proofs.FileListings.{all_by_recursion_of_has}
use Rattle.gixobj_listings.proofs.Unread.{entry_of_name_is_unique}
use Rattle.gixobj_listings.specs.Changes.{ChangeView, DiffersAt, EntryPairView, FilesOfSide, HasName, HasNoFile, IsChange, IsChangeOfPair, IsChangeOfPairs}
use Rattle.gixobj_listings.specs.Changes.{ListsChange, Merges, VersionView, sides, with_name_first}
use Rattle.gixobj_listings.specs.FileLists.{has_names}

-- the change is at or below the name of one of the pairs, and more names follow if and only if it is of directories
abbrev pub StartsInPair : List EntryPairView → ChangeView → Type 0
StartsInPair [] change = ⊥
StartsInPair (pair ∷ pairs) change =
    ((name : List ℕ) × (rest : Path) × HasName name pair × (change.path ≡ name ∷ rest)
    × AllByRecursion (λ e. has_names rest ≡ is_tree_mode e.mode) (sides pair))
    ⊎ StartsInPair pairs change

-- ---- changes of one pair

-- equal sets don't differ
pub no_change_of_same_files : (A B : FileSet) (path : Path) → ((mode : ℕ) (id : ObjectId) → A path mode id ↔ B path mode id)
    → (before after : Option VersionView) → DiffersAt A B path before after → ⊥
no_change_of_same_files A B path same None None differ = differ
no_change_of_same_files A B path same (Some old) None (had, none) = none old.0 old.1 ((same old.0 old.1).0 had)
no_change_of_same_files A B path same None (Some new) (none, has) = none new.0 new.1 ((same new.0 new.1).1 has)
no_change_of_same_files A B path same (Some old) (Some new) (had, has, gone, fresh) = gone ((same old.0 old.1).0 had)

-- sets that agree at two paths differ there alike
pub differs_at_congruent : (A B C D : FileSet) (path other : Path) → ((mode : ℕ) (id : ObjectId) → A path mode id ↔ C other mode id)
    → ((mode : ℕ) (id : ObjectId) → B path mode id ↔ D other mode id)
    → (before after : Option VersionView) → DiffersAt A B path before after → DiffersAt C D other before after
differs_at_congruent A B C D path other left right None None differ = differ
differs_at_congruent A B C D path other left right (Some old) None (had, none) =
    ((left old.0 old.1).0 had, λ mode id has. none mode id ((right mode id).1 has))
differs_at_congruent A B C D path other left right None (Some new) (none, has) =
    ((λ mode id had. none mode id ((left mode id).1 had)), (right new.0 new.1).0 has)
differs_at_congruent A B C D path other left right (Some old) (Some new) (had, has, gone, fresh) = (
  (left old.0 old.1).0 had,
  (right new.0 new.1).0 has,
  (λ still. gone ((right old.0 old.1).1 still)),
  (λ was. fresh ((left new.0 new.1).1 was)),
)

-- each file of a set alone was removed, and each file of another set alone was added
pub differs_at_of_left_alone : (A B : FileSet) (path : Path) → HasNoFile B path → (before after : Option VersionView) → DiffersAt A B path before after
    → (old : VersionView) × (before ≡ Some old) × (after ≡ None) × A path old.0 old.1
differs_at_of_left_alone A B path none None None differ = absurd differ
differs_at_of_left_alone A B path none (Some old) None (had, gone) = (old, refl, refl, had)
differs_at_of_left_alone A B path none None (Some new) (before_none, has) = absurd (none new.0 new.1 has)
differs_at_of_left_alone A B path none (Some old) (Some new) (had, has, gone, fresh) = absurd (none new.0 new.1 has)

pub differs_at_of_right_alone : (A B : FileSet) (path : Path) → HasNoFile A path → (before after : Option VersionView) → DiffersAt A B path before after
    → (new : VersionView) × (before ≡ None) × (after ≡ Some new) × B path new.0 new.1
differs_at_of_right_alone A B path none None None differ = absurd differ
differs_at_of_right_alone A B path none (Some old) None (had, gone) = absurd (none old.0 old.1 had)
differs_at_of_right_alone A B path none None (Some new) (before_none, has) = (new, refl, refl, has)
differs_at_of_right_alone A B path none (Some old) (Some new) (had, has, gone, fresh) = absurd (none old.0 old.1 had)

-- ---- lists of changes

pub ListsChange-append : (xs ys : List ChangeView) (change : ChangeView) → ListsChange (xs ++ ys) change → ListsChange xs change ⊎ ListsChange ys change
ListsChange-append [] ys change h = inr h
ListsChange-append (x ∷ xs) ys change (inl is) = inl (inl is)
ListsChange-append (x ∷ xs) ys change (inr h) = ⊎_elim (λ k. inl (inr k)) inr (ListsChange-append xs ys change h)

pub ListsChange-left : (xs ys : List ChangeView) (change : ChangeView) → ListsChange xs change → ListsChange (xs ++ ys) change
ListsChange-left [] ys change h = absurd h
ListsChange-left (x ∷ xs) ys change (inl is) = inl is
ListsChange-left (x ∷ xs) ys change (inr h) = inr (ListsChange-left xs ys change h)

pub ListsChange-right : (xs ys : List ChangeView) (change : ChangeView) → ListsChange ys change → ListsChange (xs ++ ys) change
ListsChange-right [] ys change h = h
ListsChange-right (x ∷ xs) ys change h = inr (ListsChange-right xs ys change h)

-- a change with a name before its path is of the list with names if and only if it is of the list
pub lists_change_of_with_name : (name : List ℕ) (changes : List ChangeView) (change : ChangeView) → ListsChange (map (with_name_first name) changes) change
    → (inner : ChangeView) × (with_name_first name inner ≡ change) × ListsChange changes inner
lists_change_of_with_name name [] change h = absurd h
lists_change_of_with_name name (x ∷ changes) change (inl is) = (x, is, inl refl)
lists_change_of_with_name name (x ∷ changes) change (inr h) =
    let rest = lists_change_of_with_name name changes change h in (rest.0, rest.1, inr rest.2)

pub lists_change_with_name : (name : List ℕ) (changes : List ChangeView) (change : ChangeView) → ListsChange changes change
    → ListsChange (map (with_name_first name) changes) (with_name_first name change)
lists_change_with_name name [] change h = absurd h
lists_change_with_name name (x ∷ changes) change (inl is) = inl (ap (with_name_first name) is)
lists_change_with_name name (x ∷ changes) change (inr h) = inr (lists_change_with_name name changes change h)

-- ---- the files of an entry

-- the table has the tree of the entry, if it is a directory
abbrev pub HasTreeIfDirectory : Table → EntryView → Type 0
HasTreeIfDirectory T e = is_tree_mode e.mode ≡ true → IsFalse (is_null e.id) → (es : List EntryView) × (T.tree_at e.id ≡ Some es)

files_have_names : (T : Table) (n : ℕ) (es : List EntryView) (path : Path) (mode : ℕ) (id : ObjectId) → Files T n es path mode id → has_names path ≡ true
files_have_names T zero es path mode id h = absurd h
files_have_names T (suc n) es [] mode id h = absurd h
files_have_names T (suc n) es (name ∷ path) mode id h = refl

kind_of_file_by : (T : Table) (n : ℕ) (e : EntryView) (path : Path) (mode : ℕ) (id : ObjectId) (is_tree : Bool) → is_tree_mode e.mode ≡ is_tree
    → HasTreeIfDirectory T e
    → Below T (Files T n) e.mode e.id path mode id
    → has_names path ≡ is_tree
kind_of_file_by T n e path mode id true is has_tree h =
    let there = has_tree is h.0 in
    let known : resolves_to T e.mode e.id ≡ Some there.0 = rw is there.1 in
    let At : Option (List EntryView) → Type 0 = λ found. MatchOption found ((path ≡ []) × (mode ≡ e.mode) × (id ≡ e.id)) (λ es. Files T n es path mode id) in
    files_have_names T n there.0 path mode id (subst At known h.1)
kind_of_file_by T n e path mode id false is has_tree h =
    let unknown : resolves_to T e.mode e.id ≡ None = rw is refl in
    let At : Option (List EntryView) → Type 0 = λ found. MatchOption found ((path ≡ []) × (mode ≡ e.mode) × (id ≡ e.id)) (λ es. Files T n es path mode id) in
    ap has_names (subst At unknown h.1).0

-- a file at or below an entry is below it if and only if the entry is a directory
pub kind_of_file : (T : Table) (n : ℕ) (e : EntryView) (path : Path) (mode : ℕ) (id : ObjectId) → HasTreeIfDirectory T e
    → Below T (Files T n) e.mode e.id path mode id
    → has_names path ≡ is_tree_mode e.mode
kind_of_file T n e path mode id = kind_of_file_by T n e path mode id (is_tree_mode e.mode) refl

-- the files of a tree below a name are those of its entry of this name
pub files_at_name : (T : Table) (n : ℕ) (es : List EntryView) (e : EntryView) (name : List ℕ) → AreApart es → ContainsEntry es e → e.name ≡ name → (path : Path)
    (mode : ℕ) (id : ObjectId)
    → Files T (suc n) es (name ∷ path) mode id ↔ Below T (Files T n) e.mode e.id path mode id
files_at_name T n es e name apart has named path mode id = (
  (λ h.
      let same : h.0 ≡ e = entry_of_name_is_unique es h.0 e apart h.1 has (h.2 ∙ sym named) in
      subst (λ (x : EntryView). Below T (Files T n) x.mode x.id path mode id) same h.3),
  λ h. (e, has, named, h),
)

-- ---- the theorem

module _ (T : Table) (n : ℕ) (left right : List EntryView) (pairs : List EntryPairView) (left_formed : IsWellFormed left) (right_formed : IsWellFormed right)
    (merged : Merges left right pairs) (left_alone : (e : EntryView) → IsAmongPairs pairs (Some e, None) → HasTreeIfDirectory T e)
    (right_alone : (e : EntryView) → IsAmongPairs pairs (None, Some e) → HasTreeIfDirectory T e) where
  names_of_pair : (x y : EntryView) → ContainsEntry left x → ContainsEntry right y → IsAmongPairs pairs (Some x, Some y)
      → (x.name ≡ y.name) × (is_tree_mode x.mode ≡ is_tree_mode y.mode)
  names_of_pair x y has other among = equal_keys_are_alike x y (all_by_recursion_of_has (λ e. IsEntryName e.name) left x left_formed.names has)
      (all_by_recursion_of_has (λ e. IsEntryName e.name) right y right_formed.names other) (pair_has_one_key left right pairs merged x y among)

  one_pair_of_sides : (x y : EntryView) → ContainsEntry left x → ContainsEntry right y → x.name ≡ y.name → (path : Path) (mode : ℕ) (id : ObjectId) (mode' : ℕ)
      (id' : ObjectId)
      → Below T (Files T n) x.mode x.id path mode id → Below T (Files T n) y.mode y.id path mode' id' → (s t : Option EntryView)
      → IsAmongPairs pairs (Some x, s) → IsAmongPairs pairs (t, Some y)
      → IsAmongPairs pairs (Some x, Some y)
  one_pair_of_sides x y has other called path mode id mode' id' at at' (Some z) t among among' =
      let has_z : ContainsEntry right z = (sides_of_pair left right pairs merged (Some x) (Some z) among).1 in
      let same : z ≡ y = entry_of_name_is_unique right z y right_formed.apart has_z other (sym (names_of_pair x z has has_z among).0 ∙ called) in
      subst (λ (e : EntryView). IsAmongPairs pairs (Some x, Some e)) same among
  one_pair_of_sides x y has other called path mode id mode' id' at at' None (Some z) among among' =
      let has_z : ContainsEntry left z = (sides_of_pair left right pairs merged (Some z) (Some y) among').0 in
      let same : z ≡ x = entry_of_name_is_unique left z x left_formed.apart has_z has ((names_of_pair z y has_z other among').0 ∙ sym called) in
      subst (λ (e : EntryView). IsAmongPairs pairs (Some e, Some y)) same among'
  one_pair_of_sides x y has other called path mode id mode' id' at at' None None among among' =
      let kind : is_tree_mode x.mode ≡ is_tree_mode y.mode =
      sym (kind_of_file T n x path mode id (left_alone x among) at) ∙ kind_of_file T n y path mode' id' (right_alone y among') at' in
      equal_keys_are_one_pair left right pairs merged left_formed.ascending right_formed.ascending x y has other (alike_have_equal_keys x y called kind)

  -- two entries with files at one path are one pair
  files_at_one_path_are_of_one_pair : (x y : EntryView) → ContainsEntry left x → ContainsEntry right y → x.name ≡ y.name → (path : Path) (mode : ℕ)
      (id : ObjectId) (mode' : ℕ) (id' : ObjectId)
      → Below T (Files T n) x.mode x.id path mode id → Below T (Files T n) y.mode y.id path mode' id'
      → IsAmongPairs pairs (Some x, Some y)
  files_at_one_path_are_of_one_pair x y has other called path mode id mode' id' at at' =
      let x_pair = has_pair_of_left left right pairs merged x has in
      let y_pair = has_pair_of_right left right pairs merged y other in
      one_pair_of_sides x y has other called path mode id mode' id' at at' x_pair.0 y_pair.0 x_pair.1 y_pair.1

  -- at the path of a file of an entry that is alone, the other tree has none
  pub right_has_no_file : (x : EntryView) → ContainsEntry left x → IsAmongPairs pairs (Some x, None) → (path : Path) (mode : ℕ) (id : ObjectId)
      → Below T (Files T n) x.mode x.id path mode id
      → HasNoFile (Files T (suc n) right) (x.name ∷ path)
  right_has_no_file x has alone path mode id at mode' id' (y, other, called, at') =
      let among = files_at_one_path_are_of_one_pair x y has other (sym called) path mode id mode' id' at at' in
      cc (pair_of_left_is_unique left right pairs merged left_formed.ascending x None (Some y) alone among)

  pub left_has_no_file : (y : EntryView) → ContainsEntry right y → IsAmongPairs pairs (None, Some y) → (path : Path) (mode : ℕ) (id : ObjectId)
      → Below T (Files T n) y.mode y.id path mode id
      → HasNoFile (Files T (suc n) left) (y.name ∷ path)
  left_has_no_file y other alone path mode id at mode' id' (x, has, called, at') =
      let among = files_at_one_path_are_of_one_pair x y has other called path mode' id' mode id at' at in
      cc (pair_of_right_is_unique left right pairs merged right_formed.ascending y None (Some x) alone among)

  -- a change of a pair is one between the trees
  change_of_pair : (before after : Option EntryView) → IsAmongPairs pairs (before, after) → (change : ChangeView) → IsChangeOfPair T n (before, after) change
      → IsChange (Files T (suc n) left) (Files T (suc n) right) change
  change_of_pair None None among change (name, path, called, is, differ) = absurd called
  change_of_pair (Some x) None among change (name, path, called, is, differ) =
      let has : ContainsEntry left x = (sides_of_pair left right pairs merged (Some x) None among).0 in
      let removed = differs_at_of_left_alone (FilesOfSide T n (Some x)) (FilesOfSide T n None) path (λ mode id none. none) change.before change.after differ in
      let none = right_has_no_file x has among path removed.0.0 removed.0.1 removed.3 in
      subst (λ (at : Path). DiffersAt (Files T (suc n) left) (Files T (suc n) right) at change.before change.after)
      (sym (is ∙ ap (λ (first : List ℕ). first ∷ path) (sym called)))
      (differs_at_congruent (FilesOfSide T n (Some x)) (FilesOfSide T n None) (Files T (suc n) left) (Files T (suc n) right) path (x.name ∷ path)
      (λ mode id. (
        (files_at_name T n left x x.name left_formed.apart has refl path mode id).1,
        (files_at_name T n left x x.name left_formed.apart has refl path mode id).0,
      ))
      (λ mode id. ((λ no. absurd no), none mode id)) change.before change.after differ)
  change_of_pair None (Some y) among change (name, path, called, is, differ) =
      let has : ContainsEntry right y = (sides_of_pair left right pairs merged None (Some y) among).1 in
      let added = differs_at_of_right_alone (FilesOfSide T n None) (FilesOfSide T n (Some y)) path (λ mode id none. none) change.before change.after differ in
      let none = left_has_no_file y has among path added.0.0 added.0.1 added.3 in
      subst (λ (at : Path). DiffersAt (Files T (suc n) left) (Files T (suc n) right) at change.before change.after)
      (sym (is ∙ ap (λ (first : List ℕ). first ∷ path) (sym called)))
      (differs_at_congruent (FilesOfSide T n None) (FilesOfSide T n (Some y)) (Files T (suc n) left) (Files T (suc n) right) path (y.name ∷ path)
      (λ mode id. ((λ no. absurd no), none mode id))
      (λ mode id. (
        (files_at_name T n right y y.name right_formed.apart has refl path mode id).1,
        (files_at_name T n right y y.name right_formed.apart has refl path mode id).0,
      )) change.before change.after differ)
  change_of_pair (Some x) (Some y) among change (name, path, called, is, differ) =
      let has = sides_of_pair left right pairs merged (Some x) (Some y) among in
      subst (λ (at : Path). DiffersAt (Files T (suc n) left) (Files T (suc n) right) at change.before change.after) (sym is)
      (differs_at_congruent (FilesOfSide T n (Some x)) (FilesOfSide T n (Some y)) (Files T (suc n) left) (Files T (suc n) right) path (name ∷ path)
      (λ mode id. (
        (files_at_name T n left x name left_formed.apart has.0 called.0 path mode id).1,
        (files_at_name T n left x name left_formed.apart has.0 called.0 path mode id).0,
      ))
      (λ mode id. (
        (files_at_name T n right y name right_formed.apart has.1 called.1 path mode id).1,
        (files_at_name T n right y name right_formed.apart has.1 called.1 path mode id).0,
      )) change.before change.after differ)

  -- a change at the name of an entry of the first tree is one of the entry's pair
  pair_of_left_change : (x : EntryView) → ContainsEntry left x → (path : Path) (mode : ℕ) (id : ObjectId) → Below T (Files T n) x.mode x.id path mode id
      → (before after : Option VersionView) → DiffersAt (Files T (suc n) left) (Files T (suc n) right) (x.name ∷ path) before after
      → (side : Option EntryView) → IsAmongPairs pairs (Some x, side)
      → IsChangeOfPair T n (Some x, side) (record { path = x.name ∷ path; before = before; after = after })
  pair_of_left_change x has path mode id at before after differ None among =
      let none = right_has_no_file x has among path mode id at in (
        x.name,
        path,
        refl,
        refl,
        differs_at_congruent (Files T (suc n) left) (Files T (suc n) right) (FilesOfSide T n (Some x)) (FilesOfSide T n None) (x.name ∷ path) path
            (λ m i. files_at_name T n left x x.name left_formed.apart has refl path m i)
            (λ m i. (none m i, λ no. absurd no)) before after differ,
      )
  pair_of_left_change x has path mode id at before after differ (Some y) among =
      let other : ContainsEntry right y = (sides_of_pair left right pairs merged (Some x) (Some y) among).1 in
      let called = names_of_pair x y has other among in (
        x.name,
        path,
        (refl, sym called.0, called.1),
        refl,
        differs_at_congruent (Files T (suc n) left) (Files T (suc n) right) (FilesOfSide T n (Some x)) (FilesOfSide T n (Some y)) (x.name ∷ path) path
            (λ m i. files_at_name T n left x x.name left_formed.apart has refl path m i)
            (λ m i. files_at_name T n right y x.name right_formed.apart other (sym called.0) path m i) before after differ,
      )

  pair_of_right_change : (y : EntryView) → ContainsEntry right y → (path : Path) (mode : ℕ) (id : ObjectId) → Below T (Files T n) y.mode y.id path mode id
      → (before after : Option VersionView) → DiffersAt (Files T (suc n) left) (Files T (suc n) right) (y.name ∷ path) before after
      → (side : Option EntryView) → IsAmongPairs pairs (side, Some y)
      → IsChangeOfPair T n (side, Some y) (record { path = y.name ∷ path; before = before; after = after })
  pair_of_right_change y has path mode id at before after differ None among =
      let none = left_has_no_file y has among path mode id at in (
        y.name,
        path,
        refl,
        refl,
        differs_at_congruent (Files T (suc n) left) (Files T (suc n) right) (FilesOfSide T n None) (FilesOfSide T n (Some y)) (y.name ∷ path) path
            (λ m i. (none m i, λ no. absurd no))
            (λ m i. files_at_name T n right y y.name right_formed.apart has refl path m i) before after differ,
      )
  pair_of_right_change y has path mode id at before after differ (Some x) among =
      let other : ContainsEntry left x = (sides_of_pair left right pairs merged (Some x) (Some y) among).0 in
      let called = names_of_pair x y other has among in (
        y.name,
        path,
        (called.0, refl, called.1),
        refl,
        differs_at_congruent (Files T (suc n) left) (Files T (suc n) right) (FilesOfSide T n (Some x)) (FilesOfSide T n (Some y)) (y.name ∷ path) path
            (λ m i. files_at_name T n left x y.name left_formed.apart other called.0 path m i)
            (λ m i. files_at_name T n right y y.name right_formed.apart has refl path m i) before after differ,
      )

  -- the first tree has the file that was there before
  had_old : (name : List ℕ) (path : Path) (old : VersionView) (after : Option VersionView)
      → DiffersAt (Files T (suc n) left) (Files T (suc n) right) (name ∷ path) (Some old) after
      → Files T (suc n) left (name ∷ path) old.0 old.1
  had_old name path old None differ = differ.0
  had_old name path old (Some new) differ = differ.0

  pair_of_old : (name : List ℕ) (path : Path) (old : VersionView) (after : Option VersionView) → Files T (suc n) left (name ∷ path) old.0 old.1
      → DiffersAt (Files T (suc n) left) (Files T (suc n) right) (name ∷ path) (Some old) after
      → (pair : EntryPairView) × IsAmongPairs pairs pair × IsChangeOfPair T n pair (record { path = name ∷ path; before = Some old; after = after })
  pair_of_old name path old after (x, has, called, at) differ =
      let found = has_pair_of_left left right pairs merged x has in
      let here = subst (λ (first : List ℕ). DiffersAt (Files T (suc n) left) (Files T (suc n) right) (first ∷ path) (Some old) after) (sym called) differ in (
        (Some x, found.0),
        found.1,
        subst (λ (first : List ℕ). IsChangeOfPair T n (Some x, found.0) (record { path = first ∷ path; before = Some old; after = after })) called
            (pair_of_left_change x has path old.0 old.1 at (Some old) after here found.0 found.1),
      )

  pair_of_new : (name : List ℕ) (path : Path) (new : VersionView) → Files T (suc n) right (name ∷ path) new.0 new.1
      → DiffersAt (Files T (suc n) left) (Files T (suc n) right) (name ∷ path) None (Some new)
      → (pair : EntryPairView) × IsAmongPairs pairs pair × IsChangeOfPair T n pair (record { path = name ∷ path; before = None; after = Some new })
  pair_of_new name path new (y, has, called, at) differ =
      let found = has_pair_of_right left right pairs merged y has in
      let here = subst (λ (first : List ℕ). DiffersAt (Files T (suc n) left) (Files T (suc n) right) (first ∷ path) None (Some new)) (sym called) differ in (
        (found.0, Some y),
        found.1,
        subst (λ (first : List ℕ). IsChangeOfPair T n (found.0, Some y) (record { path = first ∷ path; before = None; after = Some new })) called
            (pair_of_right_change y has path new.0 new.1 at None (Some new) here found.0 found.1),
      )

  -- a change between the trees is one of a pair
  pair_of_change : (path : Path) (before after : Option VersionView) → DiffersAt (Files T (suc n) left) (Files T (suc n) right) path before after
      → (pair : EntryPairView) × IsAmongPairs pairs pair × IsChangeOfPair T n pair (record { path = path; before = before; after = after })
  pair_of_change path None None differ = absurd differ
  pair_of_change [] (Some old) None differ = absurd differ.0
  pair_of_change [] (Some old) (Some new) differ = absurd differ.0
  pair_of_change [] None (Some new) differ = absurd differ.1
  pair_of_change (name ∷ path) (Some old) after differ = pair_of_old name path old after (had_old name path old after differ) differ
  pair_of_change (name ∷ path) None (Some new) differ = pair_of_new name path new differ.1 differ

  among_of_changes : (qs : List EntryPairView) → ((q : EntryPairView) → IsAmongPairs qs q → IsAmongPairs pairs q) → (change : ChangeView)
      → IsChangeOfPairs T n qs change
      → (pair : EntryPairView) × IsAmongPairs pairs pair × IsChangeOfPair T n pair change
  among_of_changes [] all change h = absurd h
  among_of_changes (q ∷ qs) all change (inl is) = (q, all q (inl refl), is)
  among_of_changes (q ∷ qs) all change (inr h) = among_of_changes qs (λ r among. all r (inr among)) change h

  changes_of_among : (qs : List EntryPairView) (pair : EntryPairView) → IsAmongPairs qs pair → (change : ChangeView) → IsChangeOfPair T n pair change
      → IsChangeOfPairs T n qs change
  changes_of_among [] pair among change is = absurd among
  changes_of_among (q ∷ qs) pair (inl same) change is = inl (subst (λ (r : EntryPairView). IsChangeOfPair T n r change) (sym same) is)
  changes_of_among (q ∷ qs) pair (inr among) change is = inr (changes_of_among qs pair among change is)

  -- the changes of the pairs are those between the files of the trees
  pub change_of_pairs_iff : (change : ChangeView) → IsChangeOfPairs T n pairs change ↔ IsChange (Files T (suc n) left) (Files T (suc n) right) change
  change_of_pairs_iff change = (
    (λ h. let found = among_of_changes pairs (λ q among. among) change h in change_of_pair found.0.0 found.0.1 found.1 change found.2),
    λ differ.
        let found = pair_of_change change.path change.before change.after differ in changes_of_among pairs found.0 found.1 change found.2,
  )
