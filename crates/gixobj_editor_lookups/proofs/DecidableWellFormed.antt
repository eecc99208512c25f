-- Each list of entries is well-formed, or it isn't.
use Rattle.std.proofs.Common.{◌≡◌, ◌≢◌, ◌⊎◌, inl, inr, ⊎_elim, ℕ, true, false, List, [], ◌∷◌, Less, Equal, Greater, Ordering, refl, subst}
use Rattle.std.specs.Cmp.Lexicographic.{bytes_decides, slice_cmp}
use Rattle.std.specs.List.{AllByRecursion}
use Rattle.std.specs.Ordering.{nat_cmp}
use Rattle.gixobj_editor_files.specs.Editing.{same_name}
use Rattle.gixobj_hash.proofs.Splits.{no_split_of_byte_free}
use Rattle.gixobj_hash.specs.ByteStrings.{IsByteFree}
use Rattle.gixobj_tree.proofs.DecidableTrees.{splits_at_or_byte_free}
use Rattle.gixobj_tree_entries.specs.Entries.{EntryView}
use Rattle.gixobj_tree_entries.specs.KeyOrder.{ComesBefore, entry_key}
use Rattle.gixobj_tree.specs.WellFormed.{EachLater, IsEntryName, IsWellFormed}

-- a statement holds, or it doesn't
abbrev OrNot : Type 0 → Type 0
OrNot P = P ⊎ (P → ⊥)

all_or_not : {X : Type 0} (P : X → Type 0) → ((x : X) → OrNot (P x)) → (xs : List X) → OrNot (AllByRecursion P xs)
all_or_not P either [] = inl tt
all_or_not P either (x ∷ xs) =
    ⊎_elim (λ is. ⊎_elim (λ all. inl (is, all)) (λ other. inr (λ all. other all.1)) (all_or_not P either xs)) (λ other. inr (λ all. other all.0)) (either x)

each_later_or_not : {X : Type 0} (R : X → X → Type 0) → ((x y : X) → OrNot (R x y)) → (xs : List X) → OrNot (EachLater R xs)
each_later_or_not R either [] = inl tt
each_later_or_not R either (x ∷ xs) =
    ⊎_elim (λ first. ⊎_elim (λ more. inl (first, more)) (λ other. inr (λ all. other all.1)) (each_later_or_not R either xs)) (λ other. inr (λ all. other all.0))
    (all_or_not (R x) (either x) xs)

byte_free_or_not : (byte : ℕ) (bytes : List ℕ) → OrNot (IsByteFree byte bytes)
byte_free_or_not byte bytes =
    ⊎_elim (λ split. inr (λ free. no_split_of_byte_free byte split.0 split.1 (subst (IsByteFree byte) split.2.joined free))) (λ free. inl free)
    (splits_at_or_byte_free byte bytes)

entry_name_or_not : (name : List ℕ) → OrNot (IsEntryName name)
entry_name_or_not [] = inr (λ is. is.filled refl)
entry_name_or_not (first ∷ name) =
    ⊎_elim (λ free. inl (record { filled = λ bare. cc bare; one_name = free })) (λ other. inr (λ is. other is.one_name)) (byte_free_or_not 47 (first ∷ name))

names_differ_or_not : (xs ys : List ℕ) → OrNot (xs ≢ ys)
names_differ_or_not xs ys = elim (same_name xs ys) as (λ b. same_name xs ys ≡ b → OrNot (xs ≢ ys)) [
  | true ↦ λ passes. inr (λ other. other ((bytes_decides xs ys).0 passes))
  | false ↦ λ fails. inl (λ same. cc ((bytes_decides xs ys).1 same, fails))
] refl

less_or_not : (o : Ordering) → OrNot (o ≡ Less)
less_or_not Less = inl refl
less_or_not Equal = inr (λ is. cc is)
less_or_not Greater = inr (λ is. cc is)

entry_names_or_not : (entries : List EntryView) → OrNot (AllByRecursion (λ e. IsEntryName e.name) entries)
entry_names_or_not = all_or_not (λ e. IsEntryName e.name) (λ e. entry_name_or_not e.name)

names_apart_or_not : (entries : List EntryView) → OrNot (EachLater (λ x y. x.name ≢ y.name) entries)
names_apart_or_not = each_later_or_not (λ x y. x.name ≢ y.name) (λ x y. names_differ_or_not x.name y.name)

entries_ordered_or_not : (entries : List EntryView) → OrNot (EachLater ComesBefore entries)
entries_ordered_or_not = each_later_or_not ComesBefore (λ x y. less_or_not (slice_cmp nat_cmp (entry_key x) (entry_key y)))

pub is_well_formed_or_not : (entries : List EntryView) → IsWellFormed entries ⊎ (IsWellFormed entries → ⊥)
is_well_formed_or_not entries = ⊎_elim of_names (λ other. inr (λ is. other is.names)) (entry_names_or_not entries)
  where
    of_both : AllByRecursion (λ e. IsEntryName e.name) entries → EachLater (λ x y. x.name ≢ y.name) entries → OrNot (IsWellFormed entries)
    of_both names apart = ⊎_elim (λ ascending. inl (record { names = names; apart = apart; ascending = ascending })) (λ other. inr (λ is. other is.ascending))
        (entries_ordered_or_not entries)

    of_names : AllByRecursion (λ e. IsEntryName e.name) entries → OrNot (IsWellFormed entries)
    of_names names = ⊎_elim (of_both names) (λ other. inr (λ is. other is.apart)) (names_apart_or_not entries)
