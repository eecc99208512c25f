-- Names that ascend are different.
use Rattle.std.proofs.Common.{◌≡◌, ◌∙◌, ℕ, List, [], ◌∷◌, ap, inl, inr, subst}
use Rattle.std.specs.Cmp.Lexicographic.{nat_list_cmp_total, slice_cmp}
use Rattle.std.specs.Ordering.{nat_cmp, ordering_reverse}
use Rattle.std.specs.declared.cmp.Ordering.TheVariants.{Less, Greater}
use Rattle.gixobj_fsck_trees.specs.RawEntries.{RawEntryView}
use Rattle.gixobj_fsck_trees.specs.TreeMessages.{Ascend, HasEntry, HasNameTwice}

not_less_of_same : (a b : List ℕ) → b ≡ a → slice_cmp nat_cmp a b ≡ Less → ⊥
not_less_of_same a b same less =
    let itself : slice_cmp nat_cmp a a ≡ Less = (let P : List ℕ → Type 0 = λ it. slice_cmp nat_cmp a it ≡ Less in subst P same less) in
    let reversed : slice_cmp nat_cmp a a ≡ Greater = nat_list_cmp_total.antisymm a a ∙ ap ordering_reverse itself in
    cc (itself, reversed)

not_named_above : (name : List ℕ) (e : RawEntryView) (entries : List RawEntryView) → slice_cmp nat_cmp name e.name ≡ Less → Ascend (e ∷ entries)
    → ¬ HasEntry (λ other. other.name ≡ name) (e ∷ entries)
not_named_above name e entries less ascend (inl same) = not_less_of_same name e.name same less
not_named_above name e [] less ascend (inr has) = has
not_named_above name e (next ∷ entries) less ascend (inr has) =
    not_named_above name next entries (nat_list_cmp_total.trans name e.name next.name less ascend.0) ascend.1 has

-- no two entries have one name if each is less than the next
pub not_twice_of_ascend : (entries : List RawEntryView) → Ascend entries → ¬ HasNameTwice entries
not_twice_of_ascend [] ascend twice = twice
not_twice_of_ascend (e ∷ []) ascend (inl named) = named
not_twice_of_ascend (e ∷ []) ascend (inr twice) = twice
not_twice_of_ascend (e ∷ next ∷ entries) ascend (inl named) = not_named_above e.name next entries ascend.0 ascend.1 named
not_twice_of_ascend (e ∷ next ∷ entries) ascend (inr twice) = not_twice_of_ascend (next ∷ entries) ascend.1 twice
