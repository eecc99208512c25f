-- The order of entries by their keys.
use Rattle.std.proofs.Common.{◌≡◌, ◌≢◌, ◌∙◌, ℕ, Bool, true, false, not, List, [], ◌∷◌, ◌++◌, Less, Equal, Greater, Ordering, refl, sym, ap, subst}
use mathlib.Core.Bool.{true≢false}
use Rattle.std.specs.Cmp.Lexicographic.{bytes_decides, slice_cmp, texts_ties}
use Rattle.std.specs.Ordering.{is_eq, is_lt, nat_cmp, ordering_reverse}
use Rattle.std.proofs.lemmas.Cmp.{nat_list_cmp_total}
use Rattle.gixobj_tree_entries.specs.Entries.{EntryView}
use Rattle.gixobj_tree_entries.specs.KeyOrder.{ComesBefore, entry_key, key_of}
use Rattle.gixobj_tree_entries.specs.Mode.{is_tree_mode}
use Rattle.gixobj_hash.specs.ByteStrings.{IsByteFree}
use Rattle.gixobj_editor_files.specs.Editing.{comes_before}
use Rattle.gixobj_tree.proofs.WellFormed.{no_slash_at_end}

less_of_is_lt : (o : Ordering) → is_lt o ≡ true → o ≡ Less
less_of_is_lt Less h = refl
less_of_is_lt Equal h = absurd (true≢false (sym h))
less_of_is_lt Greater h = absurd (true≢false (sym h))

pub comes_before_of_true : (x y : EntryView) → comes_before x y ≡ true → ComesBefore x y
comes_before_of_true x y = less_of_is_lt (slice_cmp nat_cmp (entry_key x) (entry_key y))

append_slash_injective : (xs ys : List ℕ) → xs ++ 47 ∷ [] ≡ ys ++ 47 ∷ [] → xs ≡ ys
append_slash_injective [] [] e = refl
append_slash_injective [] (y ∷ []) e = absurd (cc e)
append_slash_injective [] (y ∷ z ∷ ys) e = absurd (cc e)
append_slash_injective (x ∷ []) [] e = absurd (cc e)
append_slash_injective (x ∷ z ∷ xs) [] e = absurd (cc e)
append_slash_injective (x ∷ xs) (y ∷ ys) e = let rest = append_slash_injective xs ys (cc e) in cc (e, rest)

pub name_of_key_unique : (xs : List ℕ) (t : Bool) (ys : List ℕ) (u : Bool) → IsByteFree 47 xs → IsByteFree 47 ys → key_of xs t ≡ key_of ys u → xs ≡ ys
name_of_key_unique xs true ys true a b e = append_slash_injective xs ys e
name_of_key_unique xs false ys false a b e = e
name_of_key_unique xs true ys false a b e = absurd (no_slash_at_end xs (subst (IsByteFree 47) (sym e) b))
name_of_key_unique xs false ys true a b e = absurd (no_slash_at_end ys (subst (IsByteFree 47) e a))

name_eq_of_equal_keys : (x y : EntryView) → IsByteFree 47 x.name → IsByteFree 47 y.name → slice_cmp nat_cmp (entry_key x) (entry_key y) ≡ Equal
    → x.name ≡ y.name
name_eq_of_equal_keys x y a b tie = name_of_key_unique x.name (is_tree_mode x.mode) y.name (is_tree_mode y.mode) a b
    ((bytes_decides (entry_key x) (entry_key y)).0 (texts_ties (entry_key x) (entry_key y) ∙ ap is_eq tie))

less_of_reverse_not_lt : (o back : Ordering) → back ≡ ordering_reverse o → not (is_lt o) ≡ true → (o ≢ Equal) → back ≡ Less
less_of_reverse_not_lt Less back e fails untied = absurd (true≢false (sym fails))
less_of_reverse_not_lt Equal back e fails untied = absurd (untied refl)
less_of_reverse_not_lt Greater back e fails untied = e

-- of two entries whose names differ, one comes before the other
pub comes_before_of_false : (x y : EntryView) → IsByteFree 47 x.name → IsByteFree 47 y.name → (x.name ≢ y.name) → not (comes_before x y) ≡ true
    → ComesBefore y x
comes_before_of_false x y a b differ fails =
    let back = nat_list_cmp_total.antisymm (entry_key y) (entry_key x) in
    less_of_reverse_not_lt (slice_cmp nat_cmp (entry_key x) (entry_key y)) (slice_cmp nat_cmp (entry_key y) (entry_key x)) back fails
    (λ tie. differ (name_eq_of_equal_keys x y a b tie))
