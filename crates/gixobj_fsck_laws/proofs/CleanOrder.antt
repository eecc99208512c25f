-- Entries without messages are in the order of their keys, and no two have one name.
use Rattle.std.proofs.Common.{◌≡◌, ◌≢◌, ◌⊎◌, ◌==◌, ◌∙◌, ℕ, Bool, List, [], ◌∷◌, inl, inr, map, refl, subst, sym, Less, Equal, Greater, Ordering}
use Rattle.std.specs.Cmp.Lexicographic.{slice_cmp}
use Rattle.std.specs.List.{AllByRecursion}
use Rattle.std.specs.Ordering.{nat_cmp}
use Rattle.gixobj_hash.specs.ByteStrings.{IsByteFree}
use Rattle.gixobj_hash.specs.declared.hash.kind.Kind.{Kind}
use Rattle.gixobj_tree_entries.proofs.NameKeys.{name_cmp_eq_key_cmp}
use Rattle.gixobj_tree_entries.specs.Entries.{EntryView}
use Rattle.gixobj_tree_entries.specs.KeyOrder.{ComesBefore, EachLater, key_of, name_cmp}
use Rattle.gixobj_tree_entries.specs.Mode.{is_tree_mode, tree_type, type_bits}
use Rattle.gixobj_tree.proofs.WellFormed.{comes_before_trans}
use Rattle.gixobj_fsck_trees.specs.RawEntries.{RawEntryView}
use Rattle.gixobj_fsck_trees.specs.TreeMessages.{HasEntry, HasNameTwice, HasStepDown, StepsDown, is_directory}
use Rattle.gixobj_fsck_laws.proofs.CleanEntries.{IsCleanEntry, decoded_view, git_mode_of_clean, slash_free_of_clean}
use Rattle.gixobj_fsck_laws.specs.CleanTrees.{IsGitMode}

-- ---- names

not_named : (kind : Kind) (e : RawEntryView) (entries : List RawEntryView) → ¬ HasEntry (λ other. other.name ≡ e.name) entries
    → AllByRecursion (λ (other : EntryView). e.name ≢ other.name) (map (decoded_view kind) entries)
not_named kind e [] none = tt
not_named kind e (next ∷ entries) none = (
  λ (same : e.name ≡ next.name). none (inl (sym same)),
  not_named kind e entries (λ (has : HasEntry (λ other. other.name ≡ e.name) entries). none (inr has)),
)

pub apart_of_clean : (kind : Kind) (entries : List RawEntryView) → ¬ HasNameTwice entries
    → EachLater (λ x y. x.name ≢ y.name) (map (decoded_view kind) entries)
apart_of_clean kind [] once = tt
apart_of_clean kind (e ∷ entries) once = (
  not_named kind e entries (λ (has : HasEntry (λ other. other.name ≡ e.name) entries). once (inl has)),
  apart_of_clean kind entries (λ (has : HasNameTwice entries). once (inr has)),
)

-- ---- order

same_directory : (strict : Bool) (mode : ℕ) → IsGitMode strict mode → (type_bits mode == tree_type) ≡ is_tree_mode mode
same_directory strict mode (inl is) = rw is refl
same_directory strict mode (inr (inl is)) = rw is refl
same_directory strict mode (inr (inr (inl is))) = rw is refl
same_directory strict mode (inr (inr (inr (inl is)))) = rw is refl
same_directory strict mode (inr (inr (inr (inr (inl is))))) = rw is refl
same_directory strict mode (inr (inr (inr (inr (inr is))))) = rw is.1 refl

less_of_not_other : (o : Ordering) → ¬ (o ≢ Less) → o ≡ Less
less_of_not_other Less other = refl
less_of_not_other Equal other = absurd (other (λ (same : Equal ≡ Less). cc same))
less_of_not_other Greater other = absurd (other (λ (same : Greater ≡ Less). cc same))

less_of_clean : (e next : RawEntryView) → ¬ StepsDown e next → e.name ≢ next.name
    → name_cmp e.name (is_directory e) next.name (is_directory next) ≡ Less
less_of_clean e next up apart = less_of_not_other (name_cmp e.name (is_directory e) next.name (is_directory next))
    (λ (other : name_cmp e.name (is_directory e) next.name (is_directory next) ≢ Less). up (apart, other))

comes_before_of_clean : (kind : Kind) (strict : Bool) (e next : RawEntryView) → IsCleanEntry kind strict e
    → IsCleanEntry kind strict next → ¬ StepsDown e next → e.name ≢ next.name
    → ComesBefore (decoded_view kind e) (decoded_view kind next)
comes_before_of_clean kind strict e next is is' up apart =
    let less = less_of_clean e next up apart in
    let keys : name_cmp e.name (is_directory e) next.name (is_directory next)
    ≡ slice_cmp nat_cmp (key_of e.name (is_directory e)) (key_of next.name (is_directory next)) =
    name_cmp_eq_key_cmp e.name (is_directory e) next.name (is_directory next) (slash_free_of_clean e is.messages)
    (slash_free_of_clean next is'.messages) in
    let tree : is_directory e ≡ is_tree_mode e.mode = same_directory strict e.mode (git_mode_of_clean strict e is.mode) in
    let tree' : is_directory next ≡ is_tree_mode next.mode = same_directory strict next.mode (git_mode_of_clean strict next is'.mode) in
    let P : Bool → Type 0 = λ it. slice_cmp nat_cmp (key_of e.name it) (key_of next.name (is_directory next)) ≡ Less in
    let Q : Bool → Type 0 = λ it. slice_cmp nat_cmp (key_of e.name (is_tree_mode e.mode)) (key_of next.name it) ≡ Less in
    subst Q tree' (subst P tree (sym keys ∙ less))

before_each : (x y : EntryView) (entries : List EntryView) → ComesBefore x y → AllByRecursion (ComesBefore y) entries
    → AllByRecursion (ComesBefore x) entries
before_each x y [] before later = tt
before_each x y (z ∷ entries) before later = (comes_before_trans x y z before later.0, before_each x y entries before later.1)

pub ascending_of_clean : (kind : Kind) (strict : Bool) (entries : List RawEntryView) → AllByRecursion (IsCleanEntry kind strict) entries
    → ¬ HasStepDown entries → ¬ HasNameTwice entries → EachLater ComesBefore (map (decoded_view kind) entries)
ascending_of_clean kind strict [] are up once = tt
ascending_of_clean kind strict (e ∷ []) are up once = (tt, tt)
ascending_of_clean kind strict (e ∷ next ∷ entries) are up once =
    let rest : EachLater ComesBefore (map (decoded_view kind) (next ∷ entries)) =
    ascending_of_clean kind strict (next ∷ entries) are.1 (λ (has : HasStepDown (next ∷ entries)). up (inr has))
    (λ (has : HasNameTwice (next ∷ entries)). once (inr has)) in
    let before : ComesBefore (decoded_view kind e) (decoded_view kind next) =
    comes_before_of_clean kind strict e next are.0 are.1.0 (λ (down : StepsDown e next). up (inl down))
    (λ (same : e.name ≡ next.name). once (inl (inl (sym same)))) in
    ((before, before_each (decoded_view kind e) (decoded_view kind next) (map (decoded_view kind) entries) before rest.0), rest)
