-- The tests of `is_canonical` decide whether a stored tree is canonical; its proof and those of its parts use it.
use Rattle.std.proofs.Common.{◌≡◌, ◌≢◌, ◌↔◌, ◌∙◌, ◌-◌, ◌+◌, ◌<◌, inl, inr, ℕ, zero, suc, Bool, true, false, List, [], ◌∷◌, ◌++◌, Option, Some, Err, Ok, Result}
use Rattle.std.proofs.Common.{refl, sym, ap, subst, arith, get_or, length, take}
use Rattle.std.specs.Prelude.{IfErr, IfOk, IsErrAnd, IsTrue, MatchOption, slice_get}
use Rattle.std.specs.List.{AllByRecursion}
use Rattle.std.proofs.lemmas.List.{take_more}
use Rattle.std.proofs.lemmas.Bool.{false_from_ne_true}
use Rattle.gix_object.specs.BuiltTrees.{NullIdTestDecides}
use Rattle.gix_object.specs.Entries.{EntryView}
use Rattle.gix_object.specs.Files.{ContainsEntry, Trees, is_null}
use Rattle.gix_object.specs.Hash.{IsNull}
use Rattle.gix_object.specs.Mode.{is_tree_mode}
use Rattle.gix_object.specs.Openings.{AreTreesOf, OfTrees}
use Rattle.gix_object.specs.Stores.{Objects}
use Rattle.gix_object.specs.Tables.{IsNeverLookedUp}
use Rattle.gix_object.specs.hash.hash.kind.Kind.{Kind}
use Rattle.gix_object.specs.hash.hash.object_id.ObjectId.{ObjectId}
use Rattle.gixobj_listings.specs.Listings.{IsDirectory}
use Rattle.gixobj_listings.specs.Roots.{IsRoot}
use Rattle.gixobj_listings.specs.declared.roots.RootError.{RootError}
use Rattle.gixobj_examples_audits.proofs.BuiltTrees.{all_of_contains}
use Rattle.gixobj_examples_audits.specs.Canonical.{AreCanonicalBefore, IsCanonicalTree, IsCanonicalEntry, IsPlainDirectory, IsUnreadBelow, NamesCanonical}

-- ---- errors

-- an error that `?` returns
pub if_err_weaken : {X E : Type 0} (r : Result X E) (P Q : E → Type 0) → IsErrAnd r P → ((error : E) → P error → Q error) → IfErr r Q
if_err_weaken (Ok x) P Q had f = absurd had
if_err_weaken (Err error) P Q had f = f error had

-- ---- entries

-- by the law that the test for a null id agrees with the null id
is_null_of_test : NullIdTestDecides → (id : ObjectId) (b : Bool) → (IsTrue b ↔ IsNull id) → b ≡ is_null id
is_null_of_test decides id true yields = sym ((decides id).1 (yields.0 refl))
is_null_of_test decides id false yields = sym (false_from_ne_true (is_null id) (λ passes. cc (yields.1 ((decides id).0 passes))))

pub entry_is_null_of_test : NullIdTestDecides → (b v : Bool) (inside e : EntryView) → inside ≡ e → (IsTrue b ↔ IsNull inside.id) → b ≡ v
    → is_null e.id ≡ v
entry_is_null_of_test decides b v inside e same yields is =
    sym (is_null_of_test decides inside.id b yields ∙ ap (λ (y : EntryView). is_null y.id) same) ∙ is

pub is_tree_mode_of_test : (b v : Bool) (inside e : EntryView) → inside ≡ e → b ≡ is_tree_mode inside.mode → b ≡ v → is_tree_mode e.mode ≡ v
is_tree_mode_of_test b v inside e same yields is = sym (yields ∙ ap (λ (y : EntryView). is_tree_mode y.mode) same) ∙ is

pub not_canonical_of_null : (trees : Trees) (hash : Kind) (n : ℕ) (e : EntryView) → is_null e.id ≡ true
    → IsTrue false ↔ IsCanonicalEntry trees hash (IsCanonicalTree trees hash n) e
not_canonical_of_null trees hash n e null = ((λ f. absurd (cc f)), λ h. absurd (let some = h.0 in cc (null, some)))

-- a plain directory is canonical if and only if its tree is
pub canonical_of_directory : (objects : Objects) (hash : Kind) (n : ℕ) (inside e : EntryView) → inside ≡ e → is_null e.id ≡ false
    → is_tree_mode e.mode ≡ true → IsPlainDirectory hash e → (r : Result Bool RootError)
    → IfOk r (λ it. OfTrees objects (λ trees. IsTrue it ↔ NamesCanonical trees hash n inside.id))
    → IfOk r (λ it. OfTrees objects (λ trees. IsTrue it ↔ IsCanonicalEntry trees hash (IsCanonicalTree trees hash n) e))
canonical_of_directory objects hash n inside e same some is plain (Err error) had = tt
canonical_of_directory objects hash n inside e same some is plain (Ok it) had = λ trees fits.
    let its : IsTrue it ↔ NamesCanonical trees hash n e.id = subst (λ (y : EntryView). IsTrue it ↔ NamesCanonical trees hash n y.id) same (had trees fits) in
    ((λ yes. (some, λ dir. (plain, its.0 yes))), λ h. its.1 (h.1 is).1)

pub error_of_directory : (objects : Objects) (may_fail : ObjectId → Bool) (hash : Kind) (n : ℕ) (inside e : EntryView) → inside ≡ e
    → is_null e.id ≡ false → is_tree_mode e.mode ≡ true → IsPlainDirectory hash e → (r : Result Bool RootError)
    → IfErr r (IsUnreadBelow objects may_fail hash n inside.id)
    → IfErr r (λ error. IsDirectory e × IsPlainDirectory hash e × IsUnreadBelow objects may_fail hash n e.id error)
error_of_directory objects may_fail hash n inside e same some is plain (Ok it) had = tt
error_of_directory objects may_fail hash n inside e same some is plain (Err error) had =
    ((is, some), plain, subst (λ (y : EntryView). IsUnreadBelow objects may_fail hash n y.id error) same had)

-- ---- trees

contains_entry_at : (es : List EntryView) (i : ℕ) (e : EntryView) → i < length es → e ≡ get_or es i e → ContainsEntry es e
contains_entry_at [] i e lt is = absurd (omega (arith, lt))
contains_entry_at (x ∷ es) zero e lt is = inl (sym is)
contains_entry_at (x ∷ es) (suc i) e lt is = inr (contains_entry_at es i e (omega (arith, lt)) is)

all_snoc : (P : EntryView → Type 0) (es : List EntryView) (e : EntryView) → AllByRecursion P es → P e → AllByRecursion P (es ++ e ∷ [])
all_snoc P [] e all p = (p, tt)
all_snoc P (x ∷ es) e all p = (all.0, all_snoc P es e all.1 p)

pub all_take_snoc : (P : EntryView → Type 0) (es : List EntryView) (i : ℕ) (e : EntryView) → i < length es → e ≡ get_or es i e
    → AllByRecursion P (take i es) → P e → AllByRecursion P (take (i + 1) es)
all_take_snoc P es i e lt is all p = rw (take_more es i e lt, sym is) (all_snoc P (take i es) e all p)

module _ (objects : Objects) (trees : Trees) (fits : AreTreesOf objects trees) (hash : Kind) (id : ObjectId) (tree : List EntryView)
    (looked_up : IsNeverLookedUp id → ⊥) (root : IsRoot objects id tree) where
  named : trees id ≡ Some tree
  named = (fits id tree).1 (root.stored (λ empty. looked_up (inr empty)))

  abbrev At : (List EntryView → Type 0) → Option (List EntryView) → Type 0
  At IsIts o = MatchOption o ⊥ (λ entries. (entries ≢ []) × IsIts entries)

  pub canonical_of_entries : (n : ℕ) → n ≢ 0 → tree ≢ [] → AllByRecursion (IsCanonicalEntry trees hash (IsCanonicalTree trees hash (n - 1))) tree
      → NamesCanonical trees hash n id
  canonical_of_entries zero some filled all = absurd (some refl)
  canonical_of_entries (suc n) some filled all =
      let less : suc n - 1 ≡ n = omega arith in
      let its : IsCanonicalTree trees hash (suc n) tree =
      (root.well_formed, subst (λ (k : ℕ). AllByRecursion (IsCanonicalEntry trees hash (IsCanonicalTree trees hash k)) tree) less all) in
      record { looked_up = looked_up; tree = subst (At (IsCanonicalTree trees hash (suc n))) (sym named) (filled, its) }

  entries_of_canonical : (n : ℕ) → NamesCanonical trees hash n id
      → (tree ≢ []) × AllByRecursion (IsCanonicalEntry trees hash (IsCanonicalTree trees hash (n - 1))) tree
  entries_of_canonical zero is = let it = subst (At (IsCanonicalTree trees hash zero)) named is.tree in absurd it.1
  entries_of_canonical (suc n) is =
      let less : suc n - 1 ≡ n = omega arith in
      let it = subst (At (IsCanonicalTree trees hash (suc n))) named is.tree in
      (it.0, subst (λ (k : ℕ). AllByRecursion (IsCanonicalEntry trees hash (IsCanonicalTree trees hash k)) tree) (sym less) it.1.1)

  -- a tree with an entry that isn't canonical isn't so either
  pub not_canonical_of_entry : (n i : ℕ) (e : EntryView) → i < length tree → e ≡ get_or tree i e → (it : Bool)
      → (IsTrue it ↔ IsCanonicalEntry trees hash (IsCanonicalTree trees hash (n - 1)) e) → it ≡ false → IsTrue false ↔ NamesCanonical trees hash n id
  not_canonical_of_entry n i e lt at it decides otherwise = (
    (λ f. absurd (cc f)),
    λ is. absurd (let yes : it ≡ true = decides.1 (all_of_contains (IsCanonicalEntry trees hash (IsCanonicalTree trees hash (n - 1))) tree
        (entries_of_canonical n is).1 e (contains_entry_at tree i e lt at)) in cc (yes, otherwise)),
  )

slice_get_at : (es : List EntryView) (i : ℕ) (e : EntryView) → i < length es → e ≡ get_or es i e → slice_get es i ≡ Some e
slice_get_at [] i e lt is = absurd (omega (arith, lt))
slice_get_at (x ∷ es) zero e lt is = ap Some (sym is)
slice_get_at (x ∷ es) (suc i) e lt is = slice_get_at es i e (omega (arith, lt)) is

-- an error at or below a directory is one below the tree, if the entries before the directory are canonical
pub error_below_tree : (objects : Objects) (may_fail : ObjectId → Bool) (hash : Kind) (depth : ℕ) → depth ≢ 0 → (id : ObjectId)
    → (IsNeverLookedUp id → ⊥) → (tree : List EntryView) → IsRoot objects id tree → (i : ℕ) (e : EntryView) → i < length tree → e ≡ get_or tree i e
    → AreCanonicalBefore objects hash (depth - 1) i tree → (error : RootError)
    → IsDirectory e × IsPlainDirectory hash e × IsUnreadBelow objects may_fail hash (depth - 1) e.id error
    → IsUnreadBelow objects may_fail hash depth id error
error_below_tree objects may_fail hash depth some id looked_up tree root i e lt at before error (dir, plain, (path, unread)) =
    (e.name ∷ path, (some, looked_up, (tree, i, e, root, slice_get_at tree i e lt at, refl, dir, plain, before, unread)))
