-- Names without a slash are in the order of their keys; used by the proofs of `name_order`, `key_order` and searches.
use Rattle.std.proofs.Common.{◌≡◌, ◌≢◌, ℕ, suc, ◌<◌, arith, Bool, true, false, List, [], ◌∷◌, ◌++◌, length, take, drop, refl, sym, ap, ◌∙◌, Less, Equal}
use Rattle.std.proofs.Common.{Greater, Ordering, Some}
use Rattle.std.specs.Ordering.{MatchOrdering, nat_cmp, ordering_then}
use Rattle.std.specs.Cmp.{nat_cmp_is}
use Rattle.std.specs.Option.{option_cmp}
use Rattle.std.specs.Cmp.Lexicographic.{slice_cmp}
use Rattle.std.proofs.lemmas.Cmp.{ranked}
use Rattle.std.proofs.Math.Nat.{min-zero, suc-min-suc, zero-min}
use Rattle.std.proofs.lemmas.List.Elements.{All-head, All-tail}
use Rattle.gixobj_hash.specs.ByteStrings.{IsByteFree}
use Rattle.gixobj_tree_entries.specs.KeyOrder.{key_of, name_cmp, next_byte}

pub ordering_then_assoc : (o p q : Ordering) → ordering_then (ordering_then o p) q ≡ ordering_then o (ordering_then p q)
ordering_then_assoc Less p q = refl
ordering_then_assoc Equal p q = refl
ordering_then_assoc Greater p q = refl

pub ordering_then_of_decided : (o r : Ordering) → (o ≢ Equal) → o ≡ ordering_then o r
ordering_then_of_decided Less r h = refl
ordering_then_of_decided Equal r h = absurd (h refl)
ordering_then_of_decided Greater r h = refl

-- the order of names, with the common length `n`
abbrev at : ℕ → List ℕ → Bool → List ℕ → Bool → Ordering
at n xs t ys u = ordering_then (slice_cmp nat_cmp (take n xs) (take n ys)) (option_cmp nat_cmp (next_byte (drop n xs) t) (next_byte (drop n ys) u))

pub name_cmp_cons : (x y : ℕ) (xs ys : List ℕ) (t u : Bool) (o : Ordering) → name_cmp xs t ys u ≡ o → name_cmp (x ∷ xs) t (y ∷ ys) u ≡ ordering_then
    (nat_cmp x y) o
name_cmp_cons x y xs ys t u o e =
    ap (λ n. at n (x ∷ xs) t (y ∷ ys) u) (suc-min-suc (length xs) (length ys)) ∙ ordering_then_assoc (nat_cmp x y) _ _ ∙ ap (ordering_then (nat_cmp x y)) e

pub name_cmp_cons_nil : (x : ℕ) (xs : List ℕ) (t u : Bool) (o : Ordering) → option_cmp nat_cmp (Some x) (next_byte [] u) ≡ o → name_cmp (x ∷ xs) t [] u ≡ o
name_cmp_cons_nil x xs t u o e = ap (λ n. at n (x ∷ xs) t [] u) (min-zero (length (x ∷ xs))) ∙ e

pub name_cmp_nil_cons : (y : ℕ) (ys : List ℕ) (t u : Bool) (o : Ordering) → option_cmp nat_cmp (next_byte [] t) (Some y) ≡ o → name_cmp [] t (y ∷ ys) u ≡ o
name_cmp_nil_cons y ys t u o e = ap (λ n. at n [] t (y ∷ ys) u) (zero-min (length (y ∷ ys))) ∙ e

head_ne_of_byte_free : (x : ℕ) (xs : List ℕ) → IsByteFree 47 (x ∷ xs) → x ≢ 47
head_ne_of_byte_free x xs free = All-head (λ it. it ≢ 47) x xs free

byte_free_tail : (x : ℕ) (xs : List ℕ) → IsByteFree 47 (x ∷ xs) → IsByteFree 47 xs
byte_free_tail x xs free = All-tail (λ it. it ≢ 47) x xs free

pub name_cmp_eq_key_cmp : (xs : List ℕ) (t : Bool) (ys : List ℕ) (u : Bool) → IsByteFree 47 xs → IsByteFree 47 ys
    → name_cmp xs t ys u ≡ slice_cmp nat_cmp (key_of xs t)
    (key_of ys u)
name_cmp_eq_key_cmp (x ∷ xs) true (y ∷ ys) true a b = name_cmp_cons x y xs ys true true _
    (name_cmp_eq_key_cmp xs true ys true (byte_free_tail x xs a) (byte_free_tail y ys b))
name_cmp_eq_key_cmp (x ∷ xs) true (y ∷ ys) false a b = name_cmp_cons x y xs ys true false _
    (name_cmp_eq_key_cmp xs true ys false (byte_free_tail x xs a) (byte_free_tail y ys b))
name_cmp_eq_key_cmp (x ∷ xs) false (y ∷ ys) true a b = name_cmp_cons x y xs ys false true _
    (name_cmp_eq_key_cmp xs false ys true (byte_free_tail x xs a) (byte_free_tail y ys b))
name_cmp_eq_key_cmp (x ∷ xs) false (y ∷ ys) false a b = name_cmp_cons x y xs ys false false _
    (name_cmp_eq_key_cmp xs false ys false (byte_free_tail x xs a) (byte_free_tail y ys b))
name_cmp_eq_key_cmp (x ∷ xs) true [] true a b = name_cmp_cons_nil x xs true true _
    (ordering_then_of_decided _ _ (λ e. head_ne_of_byte_free x xs a (ranked x 47 Equal (sym e))))
name_cmp_eq_key_cmp (x ∷ xs) false [] true a b = name_cmp_cons_nil x xs false true _
    (ordering_then_of_decided _ _ (λ e. head_ne_of_byte_free x xs a (ranked x 47 Equal (sym e))))
name_cmp_eq_key_cmp (x ∷ xs) true [] false a b = name_cmp_cons_nil x xs true false _ refl
name_cmp_eq_key_cmp (x ∷ xs) false [] false a b = name_cmp_cons_nil x xs false false _ refl
name_cmp_eq_key_cmp [] true (y ∷ ys) true a b = name_cmp_nil_cons y ys true true _
    (ordering_then_of_decided _ _ (λ e. head_ne_of_byte_free y ys b (sym (ranked 47 y Equal (sym e)))))
name_cmp_eq_key_cmp [] true (y ∷ ys) false a b = name_cmp_nil_cons y ys true false _
    (ordering_then_of_decided _ _ (λ e. head_ne_of_byte_free y ys b (sym (ranked 47 y Equal (sym e)))))
name_cmp_eq_key_cmp [] false (y ∷ ys) true a b = name_cmp_nil_cons y ys false true _ refl
name_cmp_eq_key_cmp [] false (y ∷ ys) false a b = name_cmp_nil_cons y ys false false _ refl
name_cmp_eq_key_cmp [] true [] true a b = refl
name_cmp_eq_key_cmp [] true [] false a b = refl
name_cmp_eq_key_cmp [] false [] true a b = refl
name_cmp_eq_key_cmp [] false [] false a b = refl

-- keys compare as their names, and then as their lengths
nat_cmp_suc : (m n : ℕ) → nat_cmp (suc m) (suc n) ≡ nat_cmp m n
nat_cmp_suc m n = sym (nat_cmp_is (suc m) (suc n) (nat_cmp m n) (step (nat_cmp m n) (ranked m n (nat_cmp m n) refl)))
  where
    step : (o : Ordering) → MatchOrdering o (m < n) (m ≡ n) (n < m) → MatchOrdering o (suc m < suc n) (suc m ≡ suc n) (suc n < suc m)
    step Less h = omega (arith, h)
    step Equal h = ap suc h
    step Greater h = omega (arith, h)

slice_cmp_nil_right : (xs : List ℕ) → slice_cmp nat_cmp xs [] ≡ nat_cmp (length xs) 0
slice_cmp_nil_right [] = refl
slice_cmp_nil_right (x ∷ xs) = nat_cmp_is (length (x ∷ xs)) 0 Greater (omega arith)

slice_cmp_nil_left : (ys : List ℕ) → slice_cmp nat_cmp [] ys ≡ nat_cmp 0 (length ys)
slice_cmp_nil_left [] = refl
slice_cmp_nil_left (y ∷ ys) = nat_cmp_is 0 (length (y ∷ ys)) Less (omega arith)

slice_cmp_cons_by_len : (x y : ℕ) (keys others : List ℕ) → slice_cmp nat_cmp keys others ≡ nat_cmp (length keys) (length others)
    → slice_cmp nat_cmp (x ∷ keys) (y ∷ others) ≡ ordering_then (nat_cmp x y) (nat_cmp (length (x ∷ keys)) (length (y ∷ others)))
slice_cmp_cons_by_len x y keys others e = ap (ordering_then (nat_cmp x y)) (e ∙ sym (nat_cmp_suc (length keys) (length others)))

slice_cmp_cons_by_name_cmp : (x y : ℕ) (xs ys : List ℕ) (t u : Bool) (keys others : List ℕ) → slice_cmp nat_cmp keys others ≡ ordering_then (name_cmp xs t ys u)
    (nat_cmp (length keys) (length others))
    → slice_cmp nat_cmp (x ∷ keys) (y ∷ others) ≡ ordering_then (name_cmp (x ∷ xs) t (y ∷ ys) u) (nat_cmp (length (x ∷ keys)) (length (y ∷ others)))
slice_cmp_cons_by_name_cmp x y xs ys t u keys others e =
    ap (ordering_then (nat_cmp x y)) (e ∙ ap (ordering_then (name_cmp xs t ys u)) (sym (nat_cmp_suc (length keys) (length others))))
    ∙ sym (ordering_then_assoc (nat_cmp x y) (name_cmp xs t ys u) (nat_cmp (length (x ∷ keys)) (length (y ∷ others))))
    ∙ ap (λ o. ordering_then o (nat_cmp (length (x ∷ keys)) (length (y ∷ others)))) (sym (name_cmp_cons x y xs ys t u _ refl))

name_cmp_nil_right : (x : ℕ) (xs : List ℕ) (t u : Bool) (n : Ordering) → ordering_then (option_cmp nat_cmp (Some x) (next_byte [] u)) n ≡ ordering_then
    (name_cmp (x ∷ xs) t [] u) n
name_cmp_nil_right x xs t u n = ap (λ o. ordering_then o n) (sym (name_cmp_cons_nil x xs t u _ refl))

name_cmp_nil_left : (y : ℕ) (ys : List ℕ) (t u : Bool) (n : Ordering) → ordering_then (option_cmp nat_cmp (next_byte [] t) (Some y)) n ≡ ordering_then
    (name_cmp [] t (y ∷ ys) u) n
name_cmp_nil_left y ys t u n = ap (λ o. ordering_then o n) (sym (name_cmp_nil_cons y ys t u _ refl))

pub key_cmp_eq_name_cmp_then_len : (xs : List ℕ) (t : Bool) (ys : List ℕ) (u : Bool)
    → slice_cmp nat_cmp (key_of xs t) (key_of ys u) ≡ ordering_then (name_cmp xs t ys u) (nat_cmp (length (key_of xs t)) (length (key_of ys u)))
key_cmp_eq_name_cmp_then_len (x ∷ xs) true (y ∷ ys) true = slice_cmp_cons_by_name_cmp x y xs ys true true (xs ++ (47 ∷ [])) (ys ++ (47 ∷ []))
    (key_cmp_eq_name_cmp_then_len xs true ys true)
key_cmp_eq_name_cmp_then_len (x ∷ xs) true (y ∷ ys) false = slice_cmp_cons_by_name_cmp x y xs ys true false (xs ++ (47 ∷ [])) ys
    (key_cmp_eq_name_cmp_then_len xs true ys false)
key_cmp_eq_name_cmp_then_len (x ∷ xs) false (y ∷ ys) true = slice_cmp_cons_by_name_cmp x y xs ys false true xs (ys ++ (47 ∷ []))
    (key_cmp_eq_name_cmp_then_len xs false ys true)
key_cmp_eq_name_cmp_then_len (x ∷ xs) false (y ∷ ys) false = slice_cmp_cons_by_name_cmp x y xs ys false false xs ys
    (key_cmp_eq_name_cmp_then_len xs false ys false)
key_cmp_eq_name_cmp_then_len (x ∷ xs) true [] true = slice_cmp_cons_by_len x 47 (xs ++ (47 ∷ [])) [] (slice_cmp_nil_right (xs ++ (47 ∷ [])))
    ∙ name_cmp_nil_right x xs true true _
key_cmp_eq_name_cmp_then_len (x ∷ xs) true [] false = name_cmp_nil_right x xs true false _
key_cmp_eq_name_cmp_then_len (x ∷ xs) false [] true = slice_cmp_cons_by_len x 47 xs [] (slice_cmp_nil_right xs) ∙ name_cmp_nil_right x xs false true _
key_cmp_eq_name_cmp_then_len (x ∷ xs) false [] false = name_cmp_nil_right x xs false false _
key_cmp_eq_name_cmp_then_len [] true (y ∷ ys) true = slice_cmp_cons_by_len 47 y [] (ys ++ (47 ∷ [])) (slice_cmp_nil_left (ys ++ (47 ∷ [])))
    ∙ name_cmp_nil_left y ys true true _
key_cmp_eq_name_cmp_then_len [] false (y ∷ ys) true = name_cmp_nil_left y ys false true _
key_cmp_eq_name_cmp_then_len [] true (y ∷ ys) false = slice_cmp_cons_by_len 47 y [] ys (slice_cmp_nil_left ys) ∙ name_cmp_nil_left y ys true false _
key_cmp_eq_name_cmp_then_len [] false (y ∷ ys) false = name_cmp_nil_left y ys false false _
key_cmp_eq_name_cmp_then_len [] true [] true = refl
key_cmp_eq_name_cmp_then_len [] true [] false = refl
key_cmp_eq_name_cmp_then_len [] false [] true = refl
key_cmp_eq_name_cmp_then_len [] false [] false = refl
