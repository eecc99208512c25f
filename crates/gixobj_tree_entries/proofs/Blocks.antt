-- Byte strings of one length, compared in blocks.
use Rattle.std.proofs.Common.{◌≡◌, ◌≢◌, ℕ, zero, suc, ◌+◌, ◌-◌, ◌≤◌, arith, List, [], ◌∷◌, ◌++◌, length, take, drop, refl, sym, ap, ◌∙◌, Equal, length-drop}
use Rattle.std.proofs.Math.Seq.{take-add}
use Rattle.std.proofs.lemmas.List.{take-take, take_all}
use Rattle.std.specs.Cmp.Lexicographic.{slice_cmp}
use Rattle.std.specs.Ordering.{nat_cmp, ordering_then}
use Rattle.gixobj_tree_entries.proofs.NameKeys.{ordering_then_of_decided, ordering_then_assoc}
use Rattle.gixobj_tree_entries.proofs.TiedBytes.{eq_of_slice_cmp_equal, slice_cmp_equal_of_eq}

-- a comparison compares the first `n` bytes, and then the rest
slice_cmp_take_drop : (n : ℕ) (xs ys : List ℕ) → n ≤ length xs → n ≤ length ys
    → slice_cmp nat_cmp xs ys ≡ ordering_then (slice_cmp nat_cmp (take n xs) (take n ys)) (slice_cmp nat_cmp (drop n xs) (drop n ys))
slice_cmp_take_drop zero xs ys a b = refl
slice_cmp_take_drop (suc n) (x ∷ xs) (y ∷ ys) a b =
    ap (ordering_then (nat_cmp x y)) (slice_cmp_take_drop n xs ys (omega arith) (omega arith))
    ∙ sym (ordering_then_assoc (nat_cmp x y) (slice_cmp nat_cmp (take n xs) (take n ys)) (slice_cmp nat_cmp (drop n xs) (drop n ys)))
slice_cmp_take_drop (suc n) [] ys a b = absurd (omega arith)
slice_cmp_take_drop (suc n) (x ∷ xs) [] a b = absurd (omega arith)

slice_cmp_drop_of_take_eq : (n : ℕ) (xs ys : List ℕ) → n ≤ length xs → n ≤ length ys → take n xs ≡ take n ys
    → slice_cmp nat_cmp xs ys ≡ slice_cmp nat_cmp (drop n xs) (drop n ys)
slice_cmp_drop_of_take_eq n xs ys a b same = slice_cmp_take_drop n xs ys a b ∙ ap (λ o. ordering_then o (slice_cmp nat_cmp (drop n xs) (drop n ys)))
    (slice_cmp_equal_of_eq (take n xs) (take n ys) same)

-- a block of `n` bytes decides the comparison if it differs and the bytes before it are equal
pub slice_cmp_drop_take : (at n : ℕ) (xs ys : List ℕ) → at + n ≤ length xs → at + n ≤ length ys → take at xs ≡ take at ys
    → slice_cmp nat_cmp (take n (drop at xs)) (take n (drop at ys)) ≢ Equal
    → slice_cmp nat_cmp (take n (drop at xs)) (take n (drop at ys)) ≡ slice_cmp nat_cmp xs ys
slice_cmp_drop_take at n xs ys a b same apart =
    ordering_then_of_decided (slice_cmp nat_cmp (take n (drop at xs)) (take n (drop at ys)))
    (slice_cmp nat_cmp (drop n (drop at xs)) (drop n (drop at ys))) apart
    ∙ sym (slice_cmp_take_drop n (drop at xs) (drop at ys) (omega (arith, a, length-drop at xs)) (omega (arith, b, length-drop at ys)))
    ∙ sym (slice_cmp_drop_of_take_eq at xs ys (omega (arith, a)) (omega (arith, b)) same)

-- a slice from a position to the end is the rest of the list
take_drop_to_end : (at : ℕ) (xs : List ℕ) → take (length xs - at) (drop at xs) ≡ drop at xs
take_drop_to_end at xs = take_all (length xs - at) (drop at xs) (omega (arith, length-drop at xs))

pub slice_cmp_next_block : (n at : ℕ) (xs ys : List ℕ)
    → slice_cmp nat_cmp (take n (take (length xs - at) (drop at xs))) (take n (take (length ys - at) (drop at ys)))
    ≡ slice_cmp nat_cmp (take n (drop at xs)) (take n (drop at ys))
slice_cmp_next_block n at xs ys =
    ap (λ (zs : List ℕ). slice_cmp nat_cmp (take n zs) (take n (take (length ys - at) (drop at ys)))) (take_drop_to_end at xs)
    ∙ ap (λ (zs : List ℕ). slice_cmp nat_cmp (take n (drop at xs)) (take n zs)) (take_drop_to_end at ys)

-- equal bytes and an equal block after them are equal bytes
pub take_add_eq : (at n : ℕ) (xs ys : List ℕ) → take at xs ≡ take at ys
    → slice_cmp nat_cmp (take n (drop at xs)) (take n (drop at ys)) ≡ Equal → take (at + n) xs ≡ take (at + n) ys
take_add_eq at n xs ys same tie =
    take-add at n xs
    ∙ ap (λ (zs : List ℕ). zs ++ take n (drop at xs)) same
    ∙ ap (λ (zs : List ℕ). take at ys ++ zs) (eq_of_slice_cmp_equal (take n (drop at xs)) (take n (drop at ys)) tie)
    ∙ sym (take-add at n ys)

-- the last block decides the comparison, also if it overlaps the bytes that are known to be equal
pub slice_cmp_last_block : (last n at : ℕ) (xs ys : List ℕ) → last + n ≡ length xs → last + n ≡ length ys → last ≤ at → take at xs ≡ take at ys
    → slice_cmp nat_cmp (take n (drop last xs)) (take n (drop last ys)) ≡ slice_cmp nat_cmp xs ys
slice_cmp_last_block last n at xs ys a b low same =
    let prefixes : take last xs ≡ take last ys = sym (take-take last at xs low) ∙ ap (take last) same ∙ take-take last at ys low in
    ap (λ zs. slice_cmp nat_cmp zs (take n (drop last ys))) (take_all n (drop last xs) (omega (arith, a, length-drop last xs)))
    ∙ ap (slice_cmp nat_cmp (drop last xs)) (take_all n (drop last ys) (omega (arith, b, length-drop last ys)))
    ∙ sym (slice_cmp_drop_of_take_eq last xs ys (omega (arith, a)) (omega (arith, b)) prefixes)
