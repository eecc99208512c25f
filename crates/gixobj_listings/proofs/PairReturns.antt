-- The returns of the comparison of a pair of entries, by the entries as the code has them; `unless_null`, `changes_at`
-- and `changes_between` use it.
use Rattle.std.proofs.Common.{◌≡◌, ◌≢◌, ◌⊎◌, ◌∙◌, ℕ, Bool, true, false, List, ap, map, refl, subst, sym, Option, Some, None}
use Rattle.std.specs.List.{AllByRecursion}
use Rattle.std.specs.Prelude.{IsFalse}
use Rattle.gix_object.specs.Entries.{EntryView}
use Rattle.gix_object.specs.Files.{is_null}
use Rattle.gix_object.specs.Mode.{is_tree_mode}
use Rattle.gix_object.specs.Stores.{Objects}
use Rattle.gix_object.specs.hash.hash.object_id.ObjectId.{ObjectId}
use Rattle.gixobj_listings.proofs.FileListings.{all_by_recursion_map, all_by_recursion_weaker, has_names_at_entry}
use Rattle.gixobj_listings.proofs.OrderedChanges.{additions_in_order, removals_in_order}
use Rattle.gixobj_listings.proofs.StoreChanges.{has_changes_at_added, has_changes_at_directories, has_changes_at_removed, has_changes_at_unless_null}
use Rattle.gixobj_listings.specs.Changes.{AreChangesInOrder, ChangeView, HasName, addition, removal, side_unless_null, sides}
use Rattle.gixobj_listings.specs.Differences.{HasChanges, HasChangesAt, IsAtPair}
use Rattle.gixobj_listings.specs.FileLists.{AreInOrder, FileView, has_names}
use Rattle.gixobj_listings.specs.Listings.{HasFilesAt, IsAtEntry, IsRead}

-- a side without a null id is the side
pub side_of_unless_null : (side : Option EntryView) (e : EntryView) → Some e ≡ side_unless_null side → side ≡ Some e
side_of_unless_null None e is = cc is
side_of_unless_null (Some x) e is = by_null (is_null x.id) refl
  where
    by_null : (b : Bool) → is_null x.id ≡ b → Some x ≡ Some e
    by_null true null = let gone : side_unless_null (Some x) ≡ None = rw null refl in cc (is, gone)
    by_null false null = let kept : side_unless_null (Some x) ≡ Some x = rw null refl in sym (is ∙ kept)

pub no_side_of_null : (side : Option EntryView) (e : EntryView) → side ≡ Some e → is_null e.id ≡ true → None ≡ side_unless_null side
no_side_of_null side e is null =
    let gone : side_unless_null (Some e) ≡ None = rw null refl in
    sym (ap side_unless_null is ∙ gone)

-- ---- changes

pub changes_of_sides : (objects : Objects) (depth : ℕ) (before after left right : Option EntryView) (changes : List ChangeView) → left ≡ side_unless_null before
    → right ≡ side_unless_null after → HasChangesAt objects depth (left, right) changes
    → HasChangesAt objects depth (before, after) changes
changes_of_sides objects depth before after left right changes l r are =
    has_changes_at_unless_null objects depth before after changes
    (subst (λ (side : Option EntryView). HasChangesAt objects depth (side, side_unless_null after) changes) l
    (subst (λ (side : Option EntryView). HasChangesAt objects depth (left, side) changes) r are))

pub changes_of_removed : (objects : Objects) (depth : ℕ) (before after : Option EntryView) (e : EntryView) (files : List FileView) (changes : List ChangeView)
    → Some e ≡ side_unless_null before → None ≡ side_unless_null after → changes ≡ map removal files → HasFilesAt objects depth e files
    → HasChangesAt objects depth (before, after) changes
changes_of_removed objects depth before after e files changes l r is same =
    changes_of_sides objects depth before after (Some e) None changes l r
    (subst (HasChangesAt objects depth (Some e, None)) (sym is) (has_changes_at_removed objects depth e files same))

pub changes_of_added : (objects : Objects) (depth : ℕ) (before after : Option EntryView) (e : EntryView) (files : List FileView) (changes : List ChangeView)
    → None ≡ side_unless_null before → Some e ≡ side_unless_null after → changes ≡ map addition files → HasFilesAt objects depth e files
    → HasChangesAt objects depth (before, after) changes
changes_of_added objects depth before after e files changes l r is same =
    changes_of_sides objects depth before after None (Some e) changes l r
    (subst (HasChangesAt objects depth (None, Some e)) (sym is) (has_changes_at_added objects depth e files same))

pub removed_in_order : (files : List FileView) (changes : List ChangeView) → changes ≡ map removal files → AreInOrder files → AreChangesInOrder changes
removed_in_order files changes is ordered = subst AreChangesInOrder (sym is) (removals_in_order files ordered)

pub added_in_order : (files : List FileView) (changes : List ChangeView) → changes ≡ map addition files → AreInOrder files → AreChangesInOrder changes
added_in_order files changes is ordered = subst AreChangesInOrder (sym is) (additions_in_order files ordered)

-- ---- paths

kind_of_left : (kind : Bool) (name : List ℕ) (e : EntryView) (after : Option EntryView) → HasName name (Some e, after) → kind ≡ is_tree_mode e.mode
    → AllByRecursion (λ (x : EntryView). kind ≡ is_tree_mode x.mode) (sides (Some e, after))
kind_of_left kind name e None called is = (is, tt)
kind_of_left kind name e (Some other) called is = (is, (is ∙ called.2, tt))

kind_of_right : (kind : Bool) (name : List ℕ) (before : Option EntryView) (e : EntryView) → HasName name (before, Some e) → kind ≡ is_tree_mode e.mode
    → AllByRecursion (λ (x : EntryView). kind ≡ is_tree_mode x.mode) (sides (before, Some e))
kind_of_right kind name None e called is = (is, tt)
kind_of_right kind name (Some other) e called is = (is ∙ sym called.2, (is, tt))

pub removed_at_pair : (depth : ℕ) (name : List ℕ) (before after : Option EntryView) → HasName name (before, after) → (e : EntryView)
    → Some e ≡ side_unless_null before
    → (files : List FileView) (changes : List ChangeView) → changes ≡ map removal files → AllByRecursion (IsAtEntry depth e) files
    → AllByRecursion (IsAtPair (before, after)) changes
removed_at_pair depth name before after called e l files changes is at =
    let side : before ≡ Some e = side_of_unless_null before e l in
    let named : HasName name (Some e, after) = subst (λ (x : Option EntryView). HasName name (x, after)) side called in
    subst (λ (x : Option EntryView). AllByRecursion (IsAtPair (x, after)) changes) (sym side)
    (subst (AllByRecursion (IsAtPair (Some e, after))) (sym is)
    (all_by_recursion_map (IsAtPair (Some e, after)) removal files
    (all_by_recursion_weaker (IsAtEntry depth e) (λ file. IsAtPair (Some e, after) (removal file))
    (λ file at_entry. kind_of_left (has_names file.path) name e after named (has_names_at_entry depth e file at_entry)) files at)))

pub added_at_pair : (depth : ℕ) (name : List ℕ) (before after : Option EntryView) → HasName name (before, after) → (e : EntryView)
    → Some e ≡ side_unless_null after
    → (files : List FileView) (changes : List ChangeView) → changes ≡ map addition files → AllByRecursion (IsAtEntry depth e) files
    → AllByRecursion (IsAtPair (before, after)) changes
added_at_pair depth name before after called e r files changes is at =
    let side : after ≡ Some e = side_of_unless_null after e r in
    let named : HasName name (before, Some e) = subst (λ (x : Option EntryView). HasName name (before, x)) side called in
    subst (λ (x : Option EntryView). AllByRecursion (IsAtPair (before, x)) changes) (sym side)
    (subst (AllByRecursion (IsAtPair (before, Some e))) (sym is)
    (all_by_recursion_map (IsAtPair (before, Some e)) addition files
    (all_by_recursion_weaker (IsAtEntry depth e) (λ file. IsAtPair (before, Some e) (addition file))
    (λ file at_entry. kind_of_right (has_names file.path) name before e named (has_names_at_entry depth e file at_entry)) files at)))

pub directories_at_pair : (e other : EntryView) → is_tree_mode e.mode ≡ true → is_tree_mode other.mode ≡ true → (changes : List ChangeView)
    → AllByRecursion (λ change. has_names change.path ≡ true) changes
    → AllByRecursion (IsAtPair (Some e, Some other)) changes
directories_at_pair e other e_is other_is changes named =
    all_by_recursion_weaker (λ (change : ChangeView). has_names change.path ≡ true) (IsAtPair (Some e, Some other))
    (λ change is. (is ∙ sym e_is, (is ∙ sym other_is, tt))) changes named

-- ---- two directories

pub changes_inside_directories : ((x y : ObjectId) → (x ≡ y) ⊎ (x ≢ y)) → (objects : Objects) (depth : ℕ) (x y e other : EntryView) → x ≡ e → y ≡ other
    → (changes : List ChangeView) → IsFalse (is_null e.id) → IsFalse (is_null other.id) → is_tree_mode e.mode ≡ true → is_tree_mode other.mode ≡ true
    → IsRead objects x.id × IsRead objects y.id → (IsFalse (is_null x.id) → IsFalse (is_null y.id) → HasChanges objects depth x.id y.id changes)
    → HasChangesAt objects depth (Some e, Some other) changes
changes_inside_directories same_or_not objects depth x y e other x_is y_is changes e_some other_some e_tree other_tree read are =
    let x_some : is_null x.id ≡ false = ap (λ (z : EntryView). is_null z.id) x_is ∙ e_some in
    let y_some : is_null y.id ≡ false = ap (λ (z : EntryView). is_null z.id) y_is ∙ other_some in
    let x_tree : is_tree_mode x.mode ≡ true = ap (λ (z : EntryView). is_tree_mode z.mode) x_is ∙ e_tree in
    let y_tree : is_tree_mode y.mode ≡ true = ap (λ (z : EntryView). is_tree_mode z.mode) y_is ∙ other_tree in
    subst (λ (z : EntryView). HasChangesAt objects depth (Some z, Some other) changes) x_is
    (subst (λ (z : EntryView). HasChangesAt objects depth (Some x, Some z) changes) y_is
    (has_changes_at_directories same_or_not objects depth x y changes x_some y_some x_tree y_tree read.0 read.1 (are x_some y_some)))
