-- Changes are in the order of their paths: those of a pair of entries come before those of later entries; used for the
-- comparison.
use Rattle.std.proofs.Common.{◌≡◌, inl, inr, ℕ, List, [], ◌∷◌, ◌++◌, map, refl, subst, sym, Some, None}
use Rattle.std.specs.Cmp.Lexicographic.{slice_cmp}
use Rattle.std.specs.List.{AllByRecursion}
use Rattle.std.specs.Ordering.{nat_cmp}
use Rattle.std.specs.declared.cmp.Ordering.TheVariants.{Less}
use Rattle.gix_object.specs.Entries.{EntryView}
use Rattle.gix_object.specs.Files.{ContainsEntry, Path}
use Rattle.gix_object.specs.KeyOrder.{ComesBefore, entry_key}
use Rattle.gix_object.specs.Mode.{is_tree_mode}
use Rattle.gix_object.specs.WellFormed.{EachLater}
use Rattle.gixobj_listings.proofs.ChangesOfPairs.{StartsInPair}
use Rattle.gixobj_listings.proofs.EntryPairs.{all_after_first_pair, comes_before_all}
use Rattle.gixobj_listings.proofs.FileListings.{all_by_recursion_append, all_by_recursion_map, all_by_recursion_weaker, each_later_append}
use Rattle.gixobj_listings.proofs.FileListings.{listed_before_of_comes_before}
use Rattle.gixobj_listings.specs.Changes.{AreChangesInOrder, ChangeView, EntryPairView, HasName, IsAheadOf, IsPairBefore, addition, removal, sides}
use Rattle.gixobj_listings.specs.Changes.{with_name_first}
use Rattle.gixobj_listings.specs.Differences.{IsAtPair, IsFirstPair, pair_view}
use Rattle.gixobj_listings.specs.FileLists.{AreInOrder, FileView, ListedBefore, has_names}
use Rattle.gixobj_listings.specs.declared.differences.pairs.EntryPair.{EntryPair}

all_of_has : (P : EntryView → Type 0) (es : List EntryView) → ((x : EntryView) → ContainsEntry es x → P x) → AllByRecursion P es
all_of_has P [] each = tt
all_of_has P (x ∷ es) each = (each x (inl refl), all_of_has P es (λ y has. each y (inr has)))

all_left : {X : Type 0} (P : X → Type 0) (xs ys : List X) → AllByRecursion P (xs ++ ys) → AllByRecursion P xs
all_left P [] ys all = tt
all_left P (x ∷ xs) ys all = (all.0, all_left P xs ys all.1)

all_right : {X : Type 0} (P : X → Type 0) (xs ys : List X) → AllByRecursion P (xs ++ ys) → AllByRecursion P ys
all_right P [] ys all = all
all_right P (x ∷ xs) ys all = all_right P xs ys all.1

-- ---- the first pair

ahead_of_all : (e : EntryView) (es : List EntryView) → IsAheadOf e es → EachLater ComesBefore es → AllByRecursion (ComesBefore e) es
ahead_of_all e es ahead order = all_of_has (ComesBefore e) es (comes_before_all e es ahead order)

alone_before : (e : EntryView) (es : List EntryView) → AllByRecursion (ComesBefore e) es → AllByRecursion (λ later. ComesBefore e later × Unit {0}) es
alone_before e = all_by_recursion_weaker (ComesBefore e) (λ later. ComesBefore e later × Unit {0}) (λ later before. (before, tt))

both_before : (e other : EntryView) → entry_key e ≡ entry_key other → (es : List EntryView) → AllByRecursion (ComesBefore e) es
    → AllByRecursion (λ later. ComesBefore e later × (ComesBefore other later × Unit {0})) es
both_before e other key = all_by_recursion_weaker (ComesBefore e) (λ later. ComesBefore e later × (ComesBefore other later × Unit {0}))
    (λ later before. (before, (subst (λ k. slice_cmp nat_cmp k (entry_key later) ≡ Less) key before, tt)))

-- the first pair comes before each entry that remains
pub pair_before_rest : (left right : List EntryView) (pair : EntryPair) → IsFirstPair left right pair → EachLater ComesBefore left → EachLater ComesBefore right
    → IsPairBefore (pair.left.now ++ pair.right.now) (pair_view pair)
pair_before_rest left right pair (inl (e, is, l, r, ahead)) lefts rights =
    subst (IsPairBefore (pair.left.now ++ pair.right.now)) (sym is)
    (all_by_recursion_append (λ later. ComesBefore e later × Unit {0}) pair.left.now pair.right.now
    (alone_before e pair.left.now (subst (EachLater ComesBefore) l lefts).0)
    (alone_before e pair.right.now (ahead_of_all e pair.right.now (subst (IsAheadOf e) r ahead) (subst (EachLater ComesBefore) r rights))))
pair_before_rest left right pair (inr (inl (e, is, l, r, ahead))) lefts rights =
    subst (IsPairBefore (pair.left.now ++ pair.right.now)) (sym is)
    (all_by_recursion_append (λ later. ComesBefore e later × Unit {0}) pair.left.now pair.right.now
    (alone_before e pair.left.now (ahead_of_all e pair.left.now (subst (IsAheadOf e) l ahead) (subst (EachLater ComesBefore) l lefts)))
    (alone_before e pair.right.now (subst (EachLater ComesBefore) r rights).0))
pair_before_rest left right pair (inr (inr (e, other, is, l, r, key))) lefts rights =
    subst (IsPairBefore (pair.left.now ++ pair.right.now)) (sym is)
    (all_by_recursion_append (λ later. ComesBefore e later × (ComesBefore other later × Unit {0})) pair.left.now pair.right.now
    (both_before e other key pair.left.now (subst (EachLater ComesBefore) l lefts).0)
    (both_before e other key pair.right.now
    (all_by_recursion_weaker (ComesBefore other) (ComesBefore e)
    (λ later before. subst (λ k. slice_cmp nat_cmp k (entry_key later) ≡ Less) (sym key) before) pair.right.now (subst (EachLater ComesBefore) r rights).0)))

-- the entries that remain are of the lists
rest_of_lists : (P : EntryView → Type 0) (left right : List EntryView) (pair : EntryPair) → IsFirstPair left right pair → AllByRecursion P (left ++ right)
    → AllByRecursion P (pair.left.now ++ pair.right.now)
rest_of_lists P left right pair first all =
    let rest = all_after_first_pair P left right pair first (all_left P left right all) (all_right P left right all) in
    all_by_recursion_append P pair.left.now pair.right.now rest.0 rest.1

-- the sides of the first pair are of the lists
sides_of_lists : (P : EntryView → Type 0) (left right : List EntryView) (pair : EntryPair) → IsFirstPair left right pair → AllByRecursion P (left ++ right)
    → AllByRecursion P (sides (pair_view pair))
sides_of_lists P left right pair (inl (e, is, l, r, ahead)) all =
    subst (λ (p : EntryPairView). AllByRecursion P (sides p)) (sym is) ((subst (AllByRecursion P) l (all_left P left right all)).0, tt)
sides_of_lists P left right pair (inr (inl (e, is, l, r, ahead))) all =
    subst (λ (p : EntryPairView). AllByRecursion P (sides p)) (sym is) ((subst (AllByRecursion P) r (all_right P left right all)).0, tt)
sides_of_lists P left right pair (inr (inr (e, other, is, l, r, key))) all =
    subst (λ (p : EntryPairView). AllByRecursion P (sides p)) (sym is)
    ((subst (AllByRecursion P) l (all_left P left right all)).0, ((subst (AllByRecursion P) r (all_right P left right all)).0, tt))

-- each pair so far, and the first one, comes before each entry that remains
pub pairs_before_rest : (left right : List EntryView) (pair : EntryPair) → IsFirstPair left right pair → EachLater ComesBefore left
    → EachLater ComesBefore right → (pairs : List EntryPairView) → AllByRecursion (IsPairBefore (left ++ right)) pairs
    → AllByRecursion (IsPairBefore (pair.left.now ++ pair.right.now)) (pairs ++ pair_view pair ∷ [])
pairs_before_rest left right pair first lefts rights pairs so_far =
    all_by_recursion_append (IsPairBefore (pair.left.now ++ pair.right.now)) pairs (pair_view pair ∷ [])
    (all_by_recursion_weaker (IsPairBefore (left ++ right)) (IsPairBefore (pair.left.now ++ pair.right.now))
    (λ earlier before. rest_of_lists (λ later. AllByRecursion (λ e. ComesBefore e later) (sides earlier)) left right pair first before) pairs so_far)
    (pair_before_rest left right pair first lefts rights, tt)

-- ---- changes

starts_in_pair_left : (pairs more : List EntryPairView) (change : ChangeView) → StartsInPair pairs change → StartsInPair (pairs ++ more) change
starts_in_pair_left [] more change starts = absurd starts
starts_in_pair_left (pair ∷ pairs) more change (inl is) = inl is
starts_in_pair_left (pair ∷ pairs) more change (inr starts) = inr (starts_in_pair_left pairs more change starts)

starts_in_pair_right : (pairs more : List EntryPairView) (change : ChangeView) → StartsInPair more change → StartsInPair (pairs ++ more) change
starts_in_pair_right [] more change starts = starts
starts_in_pair_right (pair ∷ pairs) more change starts = inr (starts_in_pair_right pairs more change starts)

pub starts_in_pair_snoc : (pairs : List EntryPairView) (pair : EntryPairView) (name : List ℕ) → HasName name pair → (changes below : List ChangeView)
    → AllByRecursion (StartsInPair pairs) changes → AllByRecursion (IsAtPair pair) below
    → AllByRecursion (StartsInPair (pairs ++ pair ∷ [])) (changes ++ map (with_name_first name) below)
starts_in_pair_snoc pairs pair name called changes below so_far at =
    all_by_recursion_append (StartsInPair (pairs ++ pair ∷ [])) changes (map (with_name_first name) below)
    (all_by_recursion_weaker (StartsInPair pairs) (StartsInPair (pairs ++ pair ∷ [])) (starts_in_pair_left pairs (pair ∷ [])) changes so_far)
    (all_by_recursion_map (StartsInPair (pairs ++ pair ∷ [])) (with_name_first name) below
    (all_by_recursion_weaker (IsAtPair pair) (λ change. StartsInPair (pairs ++ pair ∷ []) (with_name_first name change))
    (λ change kind. starts_in_pair_right pairs (pair ∷ []) (with_name_first name change) (inl (name, change.path, called, refl, kind))) below at))

-- a side of a pair, with the name of the pair
abbrev side_of : (pair : EntryPairView) (name : List ℕ) → HasName name pair → EntryView
side_of (None, None) name called = absurd called
side_of (Some e, None) name called = e
side_of (None, Some e) name called = e
side_of (Some e, Some other) name called = e

side_name : (pair : EntryPairView) (name : List ℕ) (called : HasName name pair) → (side_of pair name called).name ≡ name
side_name (None, None) name called = absurd called
side_name (Some e, None) name called = called
side_name (None, Some e) name called = called
side_name (Some e, Some other) name called = called.0

all_at_side : (P : EntryView → Type 0) (pair : EntryPairView) (name : List ℕ) (called : HasName name pair) → AllByRecursion P (sides pair)
    → P (side_of pair name called)
all_at_side P (None, None) name called all = absurd called
all_at_side P (Some e, None) name called all = all.0
all_at_side P (None, Some e) name called all = all.0
all_at_side P (Some e, Some other) name called all = all.0

-- a change of an earlier pair comes before each of a later pair
listed_before_pair : (later : EntryPairView) (name : List ℕ) → HasName name later → (pairs : List EntryPairView)
    → AllByRecursion (λ earlier. AllByRecursion (λ x. AllByRecursion (λ e. ComesBefore e x) (sides earlier)) (sides later)) pairs
    → (change : ChangeView) → StartsInPair pairs change → (below : ChangeView) → IsAtPair later below
    → ListedBefore change.path (name ∷ below.path)
listed_before_pair later name called [] before change starts below at = absurd starts
listed_before_pair later name called (pair ∷ pairs) before change (inl (first, rest, first_called, is, kind)) below at =
    let x : EntryView = side_of pair first first_called in
    let y : EntryView = side_of later name called in
    let less : ComesBefore x y = all_at_side (λ e. ComesBefore e y) pair first first_called
    (all_at_side (λ z. AllByRecursion (λ e. ComesBefore e z) (sides pair)) later name called before.0) in
    let listed : ListedBefore (x.name ∷ rest) (y.name ∷ below.path) = listed_before_of_comes_before x y rest below.path less
    (all_at_side (λ e. has_names rest ≡ is_tree_mode e.mode) pair first first_called kind)
    (all_at_side (λ e. has_names below.path ≡ is_tree_mode e.mode) later name called at) in
    subst (λ (path : Path). ListedBefore path (name ∷ below.path)) (sym is)
    (subst (λ (n : List ℕ). ListedBefore (n ∷ rest) (name ∷ below.path)) (side_name pair first first_called)
    (subst (λ (n : List ℕ). ListedBefore (x.name ∷ rest) (n ∷ below.path)) (side_name later name called) listed))
listed_before_pair later name called (pair ∷ pairs) before change (inr starts) below at =
    listed_before_pair later name called pairs before.1 change starts below at

listed_before_with_name : (name : List ℕ) (x : ChangeView) (changes : List ChangeView) → AllByRecursion (λ y. ListedBefore x.path y.path) changes
    → AllByRecursion (λ y. ListedBefore (name ∷ x.path) y.path) (map (with_name_first name) changes)
listed_before_with_name name x [] all = tt
listed_before_with_name name x (y ∷ changes) all = (inr (refl, all.0), listed_before_with_name name x changes all.1)

changes_in_order_with_name : (name : List ℕ) (changes : List ChangeView) → AreChangesInOrder changes → AreChangesInOrder (map (with_name_first name) changes)
changes_in_order_with_name name [] ordered = tt
changes_in_order_with_name name (change ∷ changes) ordered =
    (listed_before_with_name name change changes ordered.0, changes_in_order_with_name name changes ordered.1)

pub changes_in_order_snoc : (left right : List EntryView) (pair : EntryPair) → IsFirstPair left right pair → (name : List ℕ) → HasName name (pair_view pair)
    → (pairs : List EntryPairView) → AllByRecursion (IsPairBefore (left ++ right)) pairs
    → (changes below : List ChangeView) → AllByRecursion (StartsInPair pairs) changes → AllByRecursion (IsAtPair (pair_view pair)) below
    → AreChangesInOrder changes → AreChangesInOrder below
    → AreChangesInOrder (changes ++ map (with_name_first name) below)
changes_in_order_snoc left right pair first name called pairs before changes below so_far at ordered inner =
    let later = all_by_recursion_weaker (IsPairBefore (left ++ right))
    (λ earlier. AllByRecursion (λ x. AllByRecursion (λ e. ComesBefore e x) (sides earlier)) (sides (pair_view pair)))
    (λ earlier all. sides_of_lists (λ x. AllByRecursion (λ e. ComesBefore e x) (sides earlier)) left right pair first all) pairs before in
    each_later_append (λ x y. ListedBefore x.path y.path) changes (map (with_name_first name) below) ordered (changes_in_order_with_name name below inner)
    (all_by_recursion_weaker (StartsInPair pairs) (λ x. AllByRecursion (λ y. ListedBefore x.path y.path) (map (with_name_first name) below))
    (λ x starts. all_by_recursion_map (λ y. ListedBefore x.path y.path) (with_name_first name) below
    (all_by_recursion_weaker (IsAtPair (pair_view pair)) (λ y. ListedBefore x.path (name ∷ y.path))
    (λ y kind. listed_before_pair (pair_view pair) name called pairs later x starts y kind) below at)) changes so_far)

-- removals and additions keep the order of files
removal_listed_before : (x : FileView) (files : List FileView) → AllByRecursion (λ y. ListedBefore x.path y.path) files
    → AllByRecursion (λ (y : ChangeView). ListedBefore x.path y.path) (map removal files)
removal_listed_before x [] all = tt
removal_listed_before x (y ∷ files) all = (all.0, removal_listed_before x files all.1)

pub removals_in_order : (files : List FileView) → AreInOrder files → AreChangesInOrder (map removal files)
removals_in_order [] ordered = tt
removals_in_order (file ∷ files) ordered = (removal_listed_before file files ordered.0, removals_in_order files ordered.1)

addition_listed_before : (x : FileView) (files : List FileView) → AllByRecursion (λ y. ListedBefore x.path y.path) files
    → AllByRecursion (λ (y : ChangeView). ListedBefore x.path y.path) (map addition files)
addition_listed_before x [] all = tt
addition_listed_before x (y ∷ files) all = (all.0, addition_listed_before x files all.1)

pub additions_in_order : (files : List FileView) → AreInOrder files → AreChangesInOrder (map addition files)
additions_in_order [] ordered = tt
additions_in_order (file ∷ files) ordered = (addition_listed_before file files ordered.0, additions_in_order files ordered.1)
