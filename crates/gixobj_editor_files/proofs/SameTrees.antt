-- Trees that compare as equal are equal.
use mathlib.Core.Bool.{true≢false}
use Rattle.std.proofs.Common.{◌≡◌, ◌≢◌, ◌⊎◌, inl, inr, ◌∙◌, true, false, List, [], ◌∷◌, refl, sym, ap}
use Rattle.std.specs.Cmp.{tied_then}
use Rattle.std.specs.Cmp.Lexicographic.{bytes_decides, slice_cmp, texts_ties}
use Rattle.std.specs.Ordering.{is_eq, nat_cmp}
use Rattle.std.proofs.lemmas.Bool.{and_parts, eqb-true}
use Rattle.gixobj_hash.specs.Hash.Order.{id_cmp}
use Rattle.gixobj_hash.specs.declared.hash.object_id.ObjectId.{ObjectId}
use Rattle.gixobj_hash.specs.declared.hash.object_id.ObjectId.TheVariants.{Sha1, Sha256}
use Rattle.gixobj_editor_files.proofs.Canonical.{entries_named_alike_eq}
use Rattle.gixobj_tree_entries.specs.Entries.{EntryView}
use Rattle.gixobj_tree_entries.specs.EntryOrder.{same_entry, same_tree}
use Rattle.gixobj_tree_entries.specs.EntryOrderLaws.{tree_equiv}

id_eq_of_compare : (x y : ObjectId) → is_eq (id_cmp x y) ≡ true → x ≡ y
id_eq_of_compare (Sha1 a) (Sha1 b) h = ap Sha1 ((bytes_decides a b).0 (texts_ties a b
    ∙ (and_parts _ _ (tied_then (slice_cmp nat_cmp a b) (nat_cmp 20 20) ∙ h)).0))
id_eq_of_compare (Sha256 a) (Sha256 b) h = ap Sha256 ((bytes_decides a b).0 (texts_ties a b
    ∙ (and_parts _ _ (tied_then (slice_cmp nat_cmp a b) (nat_cmp 32 32) ∙ h)).0))
id_eq_of_compare (Sha1 a) (Sha256 b) h = absurd (true≢false (sym (and_parts _ _ (tied_then (slice_cmp nat_cmp a b) (nat_cmp 20 32) ∙ h)).1))
id_eq_of_compare (Sha256 a) (Sha1 b) h = absurd (true≢false (sym (and_parts _ _ (tied_then (slice_cmp nat_cmp a b) (nat_cmp 32 20) ∙ h)).1))

pub same_entry_eq : (x y : EntryView) → same_entry x y ≡ true → x ≡ y
same_entry_eq x y h =
    let mode = and_parts _ _ h in
    let rest = and_parts _ _ mode.1 in
    entries_named_alike_eq x y (eqb-true x.mode y.mode mode.0) ((bytes_decides x.name y.name).0 rest.0) (id_eq_of_compare x.id y.id rest.1)

pub same_tree_eq : (xs ys : List EntryView) → same_tree xs ys ≡ true → xs ≡ ys
same_tree_eq [] [] h = refl
same_tree_eq [] (y ∷ ys) h = absurd (true≢false (sym h))
same_tree_eq (x ∷ xs) [] h = absurd (true≢false (sym h))
same_tree_eq (x ∷ xs) (y ∷ ys) h = let parts = and_parts _ _ h in let head = same_entry_eq x y parts.0 in let rest = same_tree_eq xs ys parts.1 in
    cc (head, rest)

pub same_tree_false_ne : (xs ys : List EntryView) → same_tree xs ys ≡ false → xs ≢ ys
same_tree_false_ne xs ys h same = true≢false (sym (tree_equiv.refl xs) ∙ ap (same_tree xs) same ∙ h)

pub entries_eq_or_ne : (xs ys : List EntryView) → (xs ≡ ys) ⊎ (xs ≢ ys)
entries_eq_or_ne xs ys = elim (same_tree xs ys) as (λ b. same_tree xs ys ≡ b → (xs ≡ ys) ⊎ (xs ≢ ys))
    [ true ↦ λ h. inl (same_tree_eq xs ys h) | false ↦ λ h. inr (same_tree_false_ne xs ys h) ] refl
