-- The lists that `files_of` and `files_at` return have the files of `Files` and `Below`, in order; their proofs and those
-- of the comparison use it.
use Rattle.std.proofs.Common.{◌≡◌, ◌≢◌, ◌⊎◌, inl, inr, ⊎_elim, ℕ, zero, suc, ◌-◌, ◌+◌, ◌<◌, ◌≤◌, Bool, true, false, List, [], ◌∷◌, ◌++◌, All, take, get_or}
use Rattle.std.proofs.Common.{length, refl, sym, ap, subst, ◌∙◌, arith, map, Option, Some, None}
use Rattle.std.proofs.lemmas.List.{take_more}
use Rattle.std.specs.List.{AllByRecursion}
use Rattle.std.specs.Prelude.{IsFalse, MatchOption}
use Rattle.gix_object.specs.Entries.{EntryView}
use Rattle.gix_object.specs.Files.{Below, ContainsEntry, Files, NamedFiles, Path, SameFiles, Table, is_null, resolves_to}
use Rattle.gix_object.specs.KeyOrder.{ComesBefore}
use Rattle.gix_object.specs.Mode.{is_tree_mode}
use Rattle.gix_object.specs.WellFormed.{EachLater}
use Rattle.gix_object.specs.hash.hash.object_id.ObjectId.{ObjectId}
use Rattle.gixobj_listings.specs.FileLists.{AreInOrder, FileView, IsBounded, ListedBefore, Lists, has_names, with_first_name}
use Rattle.gixobj_listings.specs.Listings.{IsAtEntry}

-- ---- entries of joined lists

contains_entry_left : (es fs : List EntryView) (e : EntryView) → ContainsEntry es e → ContainsEntry (es ++ fs) e
contains_entry_left [] fs e has = absurd has
contains_entry_left (x ∷ es) fs e (inl is) = inl is
contains_entry_left (x ∷ es) fs e (inr has) = inr (contains_entry_left es fs e has)

contains_entry_right : (es fs : List EntryView) (e : EntryView) → ContainsEntry fs e → ContainsEntry (es ++ fs) e
contains_entry_right [] fs e has = has
contains_entry_right (x ∷ es) fs e has = inr (contains_entry_right es fs e has)

pub contains_entry_cases : (es fs : List EntryView) (e : EntryView) → ContainsEntry (es ++ fs) e → ContainsEntry es e ⊎ ContainsEntry fs e
contains_entry_cases [] fs e has = inr has
contains_entry_cases (x ∷ es) fs e (inl is) = inl (inl is)
contains_entry_cases (x ∷ es) fs e (inr has) = ⊎_elim (λ k. inl (inr k)) inr (contains_entry_cases es fs e has)

pub contains_entry_at : (es : List EntryView) (i : ℕ) (e : EntryView) → i < length es → e ≡ get_or es i e → ContainsEntry es e
contains_entry_at [] i e lt is = absurd (omega (arith, lt))
contains_entry_at (x ∷ es) zero e lt is = inl (sym is)
contains_entry_at (x ∷ es) (suc i) e lt is = inr (contains_entry_at es i e (omega (arith, lt)) is)

-- ---- lists as sets

Lists-append : (fs gs : List FileView) (path : Path) (mode : ℕ) (id : ObjectId) → Lists (fs ++ gs) path mode id → Lists fs path mode id ⊎ Lists gs path mode id
Lists-append [] gs path mode id h = inr h
Lists-append (f ∷ fs) gs path mode id (inl q) = inl (inl q)
Lists-append (f ∷ fs) gs path mode id (inr h) = ⊎_elim (λ k. inl (inr k)) inr (Lists-append fs gs path mode id h)

Lists-left : (fs gs : List FileView) (path : Path) (mode : ℕ) (id : ObjectId) → Lists fs path mode id → Lists (fs ++ gs) path mode id
Lists-left (f ∷ fs) gs path mode id (inl q) = inl q
Lists-left (f ∷ fs) gs path mode id (inr h) = inr (Lists-left fs gs path mode id h)
Lists-left [] gs path mode id h = absurd h

Lists-right : (fs gs : List FileView) (path : Path) (mode : ℕ) (id : ObjectId) → Lists gs path mode id → Lists (fs ++ gs) path mode id
Lists-right [] gs path mode id h = h
Lists-right (f ∷ fs) gs path mode id h = inr (Lists-right fs gs path mode id h)

lists_of_with_first_name : (name : List ℕ) (fs : List FileView) (first : List ℕ) (path : Path) (mode : ℕ) (id : ObjectId)
    → Lists (map (with_first_name name) fs) (first ∷ path) mode id → (name ≡ first) × Lists fs path mode id
lists_of_with_first_name name [] first path mode id h = absurd h
lists_of_with_first_name name (f ∷ fs) first path mode id (inl q) = (cc q.0, inl (cc q.0, q.1, q.2))
lists_of_with_first_name name (f ∷ fs) first path mode id (inr h) = let rest = lists_of_with_first_name name fs first path mode id h in (rest.0, inr rest.1)

lists_map_with_first_name : (name : List ℕ) (fs : List FileView) (path : Path) (mode : ℕ) (id : ObjectId) → Lists fs path mode id
    → Lists (map (with_first_name name) fs) (name ∷ path) mode id
lists_map_with_first_name name [] path mode id h = h
lists_map_with_first_name name (f ∷ fs) path mode id (inl q) = inl (ap (λ (p : Path). name ∷ p) q.0, q.1, q.2)
lists_map_with_first_name name (f ∷ fs) path mode id (inr h) = inr (lists_map_with_first_name name fs path mode id h)

not_lists_nil_with_first_name : (name : List ℕ) (fs : List FileView) (mode : ℕ) (id : ObjectId) → Lists (map (with_first_name name) fs) [] mode id → ⊥
not_lists_nil_with_first_name name [] mode id h = h
not_lists_nil_with_first_name name (f ∷ fs) mode id (inl q) = cc q.0
not_lists_nil_with_first_name name (f ∷ fs) mode id (inr h) = not_lists_nil_with_first_name name fs mode id h

-- a tree without entries has no files to any depth
pub lists_nil_of_no_entries : (T : Table) (n : ℕ) → SameFiles (Lists []) (Files T n [])
lists_nil_of_no_entries T zero path mode id = ((λ h. h), λ h. h)
lists_nil_of_no_entries T (suc n) [] mode id = ((λ h. h), λ h. h)
lists_nil_of_no_entries T (suc n) (name ∷ path) mode id = ((λ h. absurd h), λ h. absurd h.1)

-- one more entry adds the files at and below it, each with the entry's name before its path
files_snoc : (T : Table) (n : ℕ) (es : List EntryView) (e : EntryView) (fs below : List FileView)
    → SameFiles (Lists fs) (Files T (suc n) es) → SameFiles (Lists below) (Below T (Files T n) e.mode e.id)
    → SameFiles (Lists (fs ++ map (with_first_name e.name) below)) (Files T (suc n) (es ++ e ∷ []))
files_snoc T n es e fs below same at [] mode id = (
  (λ h. ⊎_elim (λ k. (same [] mode id).0 k) (λ k. not_lists_nil_with_first_name e.name below mode id k)
      (Lists-append fs (map (with_first_name e.name) below) [] mode id h)),
  λ h. absurd h,
)
files_snoc T n es e fs below same at (name ∷ path) mode id =
    let At : EntryView → Type 0 = λ y. Below T (Files T n) y.mode y.id path mode id in (
      (λ h. ⊎_elim
          (λ k. let old = (same (name ∷ path) mode id).0 k in (old.0, contains_entry_left es (e ∷ []) old.0 old.1, old.2, old.3))
          (λ k. let new = lists_of_with_first_name e.name below name path mode id k in
          (e, contains_entry_right es (e ∷ []) e (inl refl), new.0, (at path mode id).0 new.1))
          (Lists-append fs (map (with_first_name e.name) below) (name ∷ path) mode id h)),
      (λ h. ⊎_elim
          (λ k. Lists-left fs (map (with_first_name e.name) below) (name ∷ path) mode id ((same (name ∷ path) mode id).1 (h.0, k, h.2, h.3)))
          (λ k. ⊎_elim
          (λ is.
          let named : e.name ≡ name = ap (λ (y : EntryView). y.name) is ∙ h.2 in
          let inner : Lists below path mode id = (at path mode id).1 (subst At (sym is) h.3) in
          Lists-right fs (map (with_first_name e.name) below) (name ∷ path) mode id
          (subst (λ (first : List ℕ). Lists (map (with_first_name e.name) below) (first ∷ path) mode id) named
          (lists_map_with_first_name e.name below path mode id inner)))
          (λ none. absurd none) k)
          (contains_entry_cases es (e ∷ []) h.0 h.1)),
    )

files_snoc_of_nonzero_depth : (T : Table) (n : ℕ) → n ≢ 0 → (es : List EntryView) (e : EntryView) (fs below : List FileView)
    → SameFiles (Lists fs) (Files T n es) → SameFiles (Lists below) (Below T (Files T (n - 1)) e.mode e.id)
    → SameFiles (Lists (fs ++ map (with_first_name e.name) below)) (Files T n (es ++ e ∷ []))
files_snoc_of_nonzero_depth T zero some es e fs below same at = absurd (some refl)
files_snoc_of_nonzero_depth T (suc n) some es e fs below same at =
    let less : suc n - 1 ≡ n = omega arith in
    files_snoc T n es e fs below same (subst (λ (k : ℕ). SameFiles (Lists below) (Below T (Files T k) e.mode e.id)) less at)

pub lists_take_snoc : (T : Table) (n : ℕ) → n ≢ 0 → (tree : List EntryView) (i : ℕ) (e : EntryView) (name : List ℕ) (fs below new : List FileView)
    → i < length tree → e ≡ get_or tree i e → name ≡ e.name → new ≡ fs ++ map (with_first_name name) below
    → SameFiles (Lists fs) (Files T n (take i tree)) → SameFiles (Lists below) (Below T (Files T (n - 1)) e.mode e.id)
    → SameFiles (Lists new) (Files T n (take (i + 1) tree))
lists_take_snoc T n some tree i e name fs below new lt is named added same at =
    let files : SameFiles (Lists (fs ++ map (with_first_name e.name) below)) (Files T n (take i tree ++ e ∷ [])) =
    files_snoc_of_nonzero_depth T n some (take i tree) e fs below same at in
    rw (added, named, take_more tree i e lt, sym is) files

-- ---- the files at an entry

abbrev one_file : EntryView → List FileView
one_file e = (record { path = []; mode = e.mode; id = e.id }) ∷ []

pub lists_nil_at_null : (T : Table) (n : ℕ) (e : EntryView) → is_null e.id ≡ true → SameFiles (Lists []) (Below T (Files T n) e.mode e.id)
lists_nil_at_null T n e null path mode id = ((λ h. absurd h), λ h. cc (null, h.0))

pub lists_one_file_of_no_tree : (T : Table) (n : ℕ) (e : EntryView) (files : List FileView) → is_null e.id ≡ false → is_tree_mode e.mode ≡ false
    → files ≡ one_file e → SameFiles (Lists files) (Below T (Files T n) e.mode e.id)
lists_one_file_of_no_tree T n e files some other one path mode id =
    let unknown : resolves_to T e.mode e.id ≡ None = rw other refl in
    let At : Option (List EntryView) → Type 0 = λ found. MatchOption found ((path ≡ []) × (mode ≡ e.mode) × (id ≡ e.id)) (λ es. Files T n es path mode id) in
    rw one ((λ h. ⊎_elim (λ q. (some, subst At (sym unknown) q)) (λ none. absurd none) h), λ h. inl (subst At unknown h.1))

-- the files of a directory whose tree the table has are those of its id
pub lists_files_of_directory : (T : Table) (n : ℕ) (e : EntryView) (entries : List EntryView) (files : List FileView) → is_null e.id ≡ false
    → is_tree_mode e.mode ≡ true → T.tree_at e.id ≡ Some entries → SameFiles (Lists files) (NamedFiles T n e.id)
    → SameFiles (Lists files) (Below T (Files T n) e.mode e.id)
lists_files_of_directory T n e entries files some is there same path mode id =
    let known : resolves_to T e.mode e.id ≡ Some entries = rw is there in
    let Named : Option (List EntryView) → Type 0 = λ found. MatchOption found ⊥ (λ es. Files T n es path mode id) in
    let At : Option (List EntryView) → Type 0 = λ found. MatchOption found ((path ≡ []) × (mode ≡ e.mode) × (id ≡ e.id)) (λ es. Files T n es path mode id) in (
      (λ h. (some, subst At (sym known) (subst Named there ((same path mode id).0 h)))),
      λ h. (same path mode id).1 (subst Named (sym there) (subst At known h.1)),
    )

-- ---- order

-- the first name of the file is that of an entry of the list, and more follow if and only if it is a directory
pub record StartsIn (depth : ℕ) (entries : List EntryView) (file : FileView) : Type 0 where
  pub entry : EntryView
  pub has : ContainsEntry entries entry
  pub rest : Path
  pub path : file.path ≡ entry.name ∷ rest
  pub kind : has_names rest ≡ is_tree_mode entry.mode
  pub max_len : length file.path ≤ depth

pub all_by_recursion_append : {X : Type 0} (P : X → Type 0) (xs ys : List X) → AllByRecursion P xs → AllByRecursion P ys → AllByRecursion P (xs ++ ys)
all_by_recursion_append P [] ys first second = second
all_by_recursion_append P (x ∷ xs) ys first second = (first.0, all_by_recursion_append P xs ys first.1 second)

pub all_by_recursion_map : {X Y : Type 0} (P : Y → Type 0) (f : X → Y) (xs : List X) → AllByRecursion (λ x. P (f x)) xs → AllByRecursion P (map f xs)
all_by_recursion_map P f [] all = tt
all_by_recursion_map P f (x ∷ xs) all = (all.0, all_by_recursion_map P f xs all.1)

pub all_by_recursion_weaker : {X : Type 0} (P Q : X → Type 0) → ((x : X) → P x → Q x) → (xs : List X) → AllByRecursion P xs → AllByRecursion Q xs
all_by_recursion_weaker P Q weaker [] all = tt
all_by_recursion_weaker P Q weaker (x ∷ xs) all = (weaker x all.0, all_by_recursion_weaker P Q weaker xs all.1)

pub all_by_recursion_at : {X : Type 0} (P : X → Type 0) (xs : List X) (i : ℕ) (x : X) → AllByRecursion P xs → i < length xs → x ≡ get_or xs i x → P x
all_by_recursion_at P [] i x all lt is = absurd (omega (arith, lt))
all_by_recursion_at P (y ∷ xs) zero x all lt is = subst P (sym is) all.0
all_by_recursion_at P (y ∷ xs) (suc i) x all lt is = all_by_recursion_at P xs i x all.1 (omega (arith, lt)) is

pub all_of_all_by_recursion : {X : Type 0} (P : X → Type 0) (xs : List X) → AllByRecursion P xs → All P xs
all_of_all_by_recursion P [] all k d lt = absurd (omega (arith, lt))
all_of_all_by_recursion P (x ∷ xs) all zero d lt = all.0
all_of_all_by_recursion P (x ∷ xs) all (suc k) d lt = all_of_all_by_recursion P xs all.1 k d (omega (arith, lt))

pub each_later_append : {X : Type 0} (R : X → X → Type 0) (xs ys : List X) → EachLater R xs → EachLater R ys
    → AllByRecursion (λ x. AllByRecursion (R x) ys) xs
    → EachLater R (xs ++ ys)
each_later_append R [] ys first second across = second
each_later_append R (x ∷ xs) ys first second across =
    (all_by_recursion_append (R x) xs ys first.0 across.0, each_later_append R xs ys first.1 second across.1)

pub all_by_recursion_of_has : (P : EntryView → Type 0) (es : List EntryView) (e : EntryView) → AllByRecursion P es → ContainsEntry es e → P e
all_by_recursion_of_has P [] e all has = absurd has
all_by_recursion_of_has P (x ∷ es) e all (inl same) = subst P same all.0
all_by_recursion_of_has P (x ∷ es) e all (inr has) = all_by_recursion_of_has P es e all.1 has

nonzero_positive : (n : ℕ) → n ≢ 0 → 0 < n
nonzero_positive zero some = absurd (some refl)
nonzero_positive (suc n) some = omega arith

has_names_by : (is_tree : Bool) (path : Path) → (is_tree ≡ true → path ≢ []) → (IsFalse is_tree → path ≡ []) → has_names path ≡ is_tree
has_names_by true [] filled none = absurd (filled refl refl)
has_names_by true (name ∷ path) filled none = refl
has_names_by false [] filled none = refl
has_names_by false (name ∷ path) filled none = absurd (cc (none refl))

-- an entry before the position of an entry of an ordered tree comes before it
pub comes_before_of_take : (tree : List EntryView) (i : ℕ) (e x : EntryView) → EachLater ComesBefore tree → i < length tree → e ≡ get_or tree i e
    → ContainsEntry (take i tree) x
    → ComesBefore x e
comes_before_of_take [] i e x ascending lt is has = absurd (omega (arith, lt))
comes_before_of_take (y ∷ tree) zero e x ascending lt is has = absurd has
comes_before_of_take (y ∷ tree) (suc i) e x ascending lt is (inl same) =
    subst (λ (z : EntryView). ComesBefore z e) same (all_by_recursion_at (ComesBefore y) tree i e ascending.0 (omega (arith, lt)) is)
comes_before_of_take (y ∷ tree) (suc i) e x ascending lt is (inr has) = comes_before_of_take tree i e x ascending.1 (omega (arith, lt)) is has

-- each entry of an ordered tree is before a position, at it, or comes after the entry there
pub take_or_at_or_after : (tree : List EntryView) (i : ℕ) (e x : EntryView) → EachLater ComesBefore tree → i < length tree → e ≡ get_or tree i e
    → ContainsEntry tree x
    → ContainsEntry (take i tree) x ⊎ ((x ≡ e) ⊎ ComesBefore e x)
take_or_at_or_after [] i e x ascending lt is has = absurd has
take_or_at_or_after (y ∷ tree) zero e x ascending lt is (inl same) = inr (inl (sym same ∙ sym is))
take_or_at_or_after (y ∷ tree) zero e x ascending lt is (inr has) =
    inr (inr (subst (λ (z : EntryView). ComesBefore z x) (sym is) (all_by_recursion_of_has (ComesBefore y) tree x ascending.0 has)))
take_or_at_or_after (y ∷ tree) (suc i) e x ascending lt is (inl same) = inl (inl same)
take_or_at_or_after (y ∷ tree) (suc i) e x ascending lt is (inr has) =
    ⊎_elim (λ k. inl (inr k)) inr (take_or_at_or_after tree i e x ascending.1 (omega (arith, lt)) is has)

listed_before_with_first_name : (name : List ℕ) (x : FileView) (files : List FileView) → AllByRecursion (λ y. ListedBefore x.path y.path) files
    → AllByRecursion (λ y. ListedBefore (name ∷ x.path) y.path) (map (with_first_name name) files)
listed_before_with_first_name name x [] all = tt
listed_before_with_first_name name x (y ∷ files) all = (inr (refl, all.0), listed_before_with_first_name name x files all.1)

-- a name before each path keeps the order
pub in_order_with_first_name : (name : List ℕ) (files : List FileView) → AreInOrder files → AreInOrder (map (with_first_name name) files)
in_order_with_first_name name [] ordered = tt
in_order_with_first_name name (file ∷ files) ordered =
    (listed_before_with_first_name name file files ordered.0, in_order_with_first_name name files ordered.1)

-- a file of an entry comes before each of a later entry
pub listed_before_of_comes_before : (x y : EntryView) (p q : Path) → ComesBefore x y → has_names p ≡ is_tree_mode x.mode → has_names q ≡ is_tree_mode y.mode
    → ListedBefore (x.name ∷ p) (y.name ∷ q)
listed_before_of_comes_before x y p q before p_kind q_kind = inl (rw (p_kind, q_kind) before)

-- the path from an entry is that of a directory's file if and only if the entry is a directory
pub has_names_at_entry : (depth : ℕ) (e : EntryView) (file : FileView) → IsAtEntry depth e file → has_names file.path ≡ is_tree_mode e.mode
has_names_at_entry depth e file at = has_names_by (is_tree_mode e.mode) file.path at.1.0 at.1.1

-- a file at an entry, with the name of the entry, starts in each list with the entry
pub starts_in_of_at_entry : (depth : ℕ) → depth ≢ 0 → (entries : List EntryView) (e : EntryView) → ContainsEntry entries e → (file : FileView)
    → IsAtEntry (depth - 1) e file
    → StartsIn depth entries (with_first_name e.name file)
starts_in_of_at_entry depth some entries e has file at = record {
  entry = e;
  has = has;
  rest = file.path;
  path = refl;
  kind = has_names_at_entry (depth - 1) e file at;
  max_len = omega (arith, at.0, nonzero_positive depth some);
}

pub starts_in_of_left : (depth : ℕ) (es fs : List EntryView) (file : FileView) → StartsIn depth es file → StartsIn depth (es ++ fs) file
starts_in_of_left depth es fs file starts = record {
  entry = starts.entry;
  has = contains_entry_left es fs starts.entry starts.has;
  rest = starts.rest;
  path = starts.path;
  kind = starts.kind;
  max_len = starts.max_len;
}

pub is_bounded_of_starts : (depth : ℕ) (entries : List EntryView) (file : FileView) → StartsIn depth entries file → IsBounded depth file
is_bounded_of_starts depth entries file starts = record { filled = λ none. cc (starts.path, none); max_len = starts.max_len }

-- ---- one more entry, at its position in the tree
module _ (depth : ℕ) (some : depth ≢ 0) (tree : List EntryView) (ascending : EachLater ComesBefore tree) (i : ℕ) (e : EntryView) (lt : i < length tree)
    (is : e ≡ get_or tree i e) where
  take_snoc : take (i + 1) tree ≡ take i tree ++ e ∷ []
  take_snoc = take_more tree i e lt ∙ ap (λ (x : EntryView). take i tree ++ x ∷ []) (sym is)

  has_at : ContainsEntry (take (i + 1) tree) e
  has_at = subst (λ (es : List EntryView). ContainsEntry es e) (sym take_snoc) (contains_entry_right (take i tree) (e ∷ []) e (inl refl))

  pub starts_snoc : (files below : List FileView) → AllByRecursion (StartsIn depth (take i tree)) files → AllByRecursion (IsAtEntry (depth - 1) e) below
      → AllByRecursion (StartsIn depth (take (i + 1) tree)) (files ++ map (with_first_name e.name) below)
  starts_snoc files below so_far at = all_by_recursion_append (StartsIn depth (take (i + 1) tree)) files (map (with_first_name e.name) below)
      (all_by_recursion_weaker (StartsIn depth (take i tree)) (StartsIn depth (take (i + 1) tree))
      (λ file starts. subst (λ (es : List EntryView). StartsIn depth es file) (sym take_snoc) (starts_in_of_left depth (take i tree) (e ∷ []) file starts))
      files so_far)
      (all_by_recursion_map (StartsIn depth (take (i + 1) tree)) (with_first_name e.name) below
      (all_by_recursion_weaker (IsAtEntry (depth - 1) e) (λ file. StartsIn depth (take (i + 1) tree) (with_first_name e.name file))
      (λ file at_entry. starts_in_of_at_entry depth some (take (i + 1) tree) e has_at file at_entry) below at))

  listed_before_entry : (x y : FileView) → StartsIn depth (take i tree) x → IsAtEntry (depth - 1) e y → ListedBefore x.path (e.name ∷ y.path)
  listed_before_entry x y starts at = subst (λ (path : Path). ListedBefore path (e.name ∷ y.path)) (sym starts.path)
      (listed_before_of_comes_before starts.entry e starts.rest y.path (comes_before_of_take tree i e starts.entry ascending lt is starts.has) starts.kind
      (has_names_at_entry (depth - 1) e y at))

  pub in_order_snoc : (files below : List FileView) → AreInOrder files → AreInOrder below → AllByRecursion (StartsIn depth (take i tree)) files
      → AllByRecursion (IsAtEntry (depth - 1) e) below
      → AreInOrder (files ++ map (with_first_name e.name) below)
  in_order_snoc files below ordered inner so_far at =
      each_later_append (λ x y. ListedBefore x.path y.path) files (map (with_first_name e.name) below) ordered (in_order_with_first_name e.name below inner)
      (all_by_recursion_weaker (StartsIn depth (take i tree)) (λ x. AllByRecursion (λ y. ListedBefore x.path y.path) (map (with_first_name e.name) below))
      (λ x starts. all_by_recursion_map (λ y. ListedBefore x.path y.path) (with_first_name e.name) below
      (all_by_recursion_weaker (IsAtEntry (depth - 1) e) (λ y. ListedBefore x.path (e.name ∷ y.path)) (λ y at_entry. listed_before_entry x y starts at_entry)
      below at)) files so_far)
