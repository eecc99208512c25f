-- Eight, four or two bytes compare as the big-endian numbers that they encode; used by the proofs of `name_order`.
use Rattle.std.proofs.Common.{◌≡◌, ◌≢◌, ℕ, zero, suc, ◌+◌, ◌*◌, ◌<◌, ◌≤◌, arith, Bool, true, false, List, [], ◌∷◌, length, get_or, take, drop, refl, sym, ap}
use Rattle.std.proofs.Common.{◌∙◌, Less, Equal, Greater, Ordering}
use mathlib.Core.Bool.{true≢false}
use Rattle.std.specs.Int.{from_be_bytes, w16, w32, w64}
use Rattle.std.specs.Ordering.{MatchOrdering, is_ne, nat_cmp, ordering_then}
use Rattle.std.specs.Cmp.{nat_cmp_is}
use Rattle.std.specs.Cmp.Lexicographic.{slice_cmp}
use Rattle.std.proofs.lemmas.Cmp.{ranked}
use Rattle.gixobj_tree_entries.specs.KeyOrder.{name_cmp}
use Rattle.gixobj_tree_entries.proofs.NameKeys.{ordering_then_of_decided, name_cmp_cons, ordering_then_assoc}

-- each element is below 256
abbrev Bytes : List ℕ → Type 0
Bytes xs = (k : ℕ) → get_or xs k 0 < 256

-- the number in base 256 with these last digits, after a number with the first digits
abbrev pub value : ℕ → List ℕ → ℕ
value n [] = n
value n (x ∷ xs) = value (256 * n + x) xs

-- numbers compare by their first digits, and then by their last digit
nat_cmp_append_byte : (m n x y : ℕ) → x < 256 → y < 256 → nat_cmp (256 * m + x) (256 * n + y) ≡ ordering_then (nat_cmp m n) (nat_cmp x y)
nat_cmp_append_byte m n x y a b = sym (nat_cmp_is (256 * m + x) (256 * n + y) (ordering_then (nat_cmp m n) (nat_cmp x y))
    (ranks (nat_cmp m n) (nat_cmp x y) (ranked m n (nat_cmp m n) refl) (ranked x y (nat_cmp x y) refl)))
  where
    ranks : (o p : Ordering) → MatchOrdering o (m < n) (m ≡ n) (n < m) → MatchOrdering p (x < y) (x ≡ y) (y < x)
        → MatchOrdering (ordering_then o p) (256 * m + x < 256 * n + y) (256 * m + x ≡ 256 * n + y) (256 * n + y < 256 * m + x)
    ranks Less p h i = let l : m < n = h in omega arith
    ranks Equal Less h i = let e : m ≡ n = h in let l : x < y = i in omega arith
    ranks Equal Equal h i = let e : m ≡ n = h in let f : x ≡ y = i in omega arith
    ranks Equal Greater h i = let e : m ≡ n = h in let l : y < x = i in omega arith
    ranks Greater p h i = let l : n < m = h in omega arith

ordering_then_equal : (o : Ordering) → o ≡ ordering_then o Equal
ordering_then_equal Less = refl
ordering_then_equal Equal = refl
ordering_then_equal Greater = refl

nat_cmp_value : (xs ys : List ℕ) (m n : ℕ) → Bytes xs → Bytes ys → length xs ≡ length ys → nat_cmp (value m xs) (value n ys) ≡ ordering_then (nat_cmp m n)
    (slice_cmp nat_cmp xs ys)
nat_cmp_value [] [] m n a b l = ordering_then_equal (nat_cmp m n)
nat_cmp_value [] (y ∷ ys) m n a b l = absurd (omega arith)
nat_cmp_value (x ∷ xs) [] m n a b l = absurd (omega arith)
nat_cmp_value (x ∷ xs) (y ∷ ys) m n a b l =
    nat_cmp_value xs ys (256 * m + x) (256 * n + y) (λ k. a (suc k)) (λ k. b (suc k)) (omega arith)
    ∙ ap (λ o. ordering_then o (slice_cmp nat_cmp xs ys)) (nat_cmp_append_byte m n x y (a 0) (b 0))
    ∙ ordering_then_assoc (nat_cmp m n) (nat_cmp x y) (slice_cmp nat_cmp xs ys)

-- the order of names compares the first `n` bytes, and then the rest
name_cmp_take_drop : (n : ℕ) (xs ys : List ℕ) (t u : Bool) → n ≤ length xs → n ≤ length ys
    → name_cmp xs t ys u ≡ ordering_then (slice_cmp nat_cmp (take n xs) (take n ys)) (name_cmp (drop n xs) t (drop n ys) u)
name_cmp_take_drop zero xs ys t u a b = refl
name_cmp_take_drop (suc n) (x ∷ xs) (y ∷ ys) t u a b =
    name_cmp_cons x y xs ys t u _ (name_cmp_take_drop n xs ys t u (omega arith) (omega arith))
    ∙ sym (ordering_then_assoc (nat_cmp x y) (slice_cmp nat_cmp (take n xs) (take n ys)) (name_cmp (drop n xs) t (drop n ys) u))
name_cmp_take_drop (suc n) [] ys t u a b = absurd (omega arith)
name_cmp_take_drop (suc n) (x ∷ xs) [] t u a b = absurd (omega arith)

-- the first eight, four or two bytes are their number, whatever follows them
from_be_bytes_w64_value : (xs : List ℕ) → 8 ≤ length xs → from_be_bytes w64 (take 8 xs) ≡ value 0 (take 8 xs)
from_be_bytes_w64_value (a ∷ b ∷ c ∷ d ∷ e ∷ f ∷ g ∷ h ∷ rest) l = omega arith
from_be_bytes_w64_value [] l = absurd (omega arith)
from_be_bytes_w64_value (a ∷ []) l = absurd (omega arith)
from_be_bytes_w64_value (a ∷ b ∷ []) l = absurd (omega arith)
from_be_bytes_w64_value (a ∷ b ∷ c ∷ []) l = absurd (omega arith)
from_be_bytes_w64_value (a ∷ b ∷ c ∷ d ∷ []) l = absurd (omega arith)
from_be_bytes_w64_value (a ∷ b ∷ c ∷ d ∷ e ∷ []) l = absurd (omega arith)
from_be_bytes_w64_value (a ∷ b ∷ c ∷ d ∷ e ∷ f ∷ []) l = absurd (omega arith)
from_be_bytes_w64_value (a ∷ b ∷ c ∷ d ∷ e ∷ f ∷ g ∷ []) l = absurd (omega arith)

from_be_bytes_w32_value : (xs : List ℕ) → 4 ≤ length xs → from_be_bytes w32 (take 4 xs) ≡ value 0 (take 4 xs)
from_be_bytes_w32_value (a ∷ b ∷ c ∷ d ∷ rest) l = omega arith
from_be_bytes_w32_value [] l = absurd (omega arith)
from_be_bytes_w32_value (a ∷ []) l = absurd (omega arith)
from_be_bytes_w32_value (a ∷ b ∷ []) l = absurd (omega arith)
from_be_bytes_w32_value (a ∷ b ∷ c ∷ []) l = absurd (omega arith)

from_be_bytes_w16_value : (xs : List ℕ) → 2 ≤ length xs → from_be_bytes w16 (take 2 xs) ≡ value 0 (take 2 xs)
from_be_bytes_w16_value (a ∷ b ∷ rest) l = omega arith
from_be_bytes_w16_value [] l = absurd (omega arith)
from_be_bytes_w16_value (a ∷ []) l = absurd (omega arith)

take_len : (n : ℕ) (xs : List ℕ) → n ≤ length xs → length (take n xs) ≡ n
take_len zero xs l = refl
take_len (suc n) [] l = absurd (omega arith)
take_len (suc n) (x ∷ xs) l = ap suc (take_len n xs (omega arith))

bytes_take : (n : ℕ) (xs : List ℕ) → Bytes xs → Bytes (take n xs)
bytes_take zero xs b k = omega arith
bytes_take (suc n) [] b k = omega arith
bytes_take (suc n) (x ∷ xs) b zero = b 0
bytes_take (suc n) (x ∷ xs) b (suc k) = bytes_take n xs (λ i. b (suc i)) k

nat_cmp_value_take : (n : ℕ) (xs ys : List ℕ) → Bytes xs → Bytes ys → n ≤ length xs → n ≤ length ys
    → nat_cmp (value 0 (take n xs)) (value 0 (take n ys)) ≡ slice_cmp nat_cmp (take n xs) (take n ys)
nat_cmp_value_take n xs ys a b l m = nat_cmp_value (take n xs) (take n ys) 0 0 (bytes_take n xs a) (bytes_take n ys b) (take_len n xs l ∙ sym (take_len n ys m))

pub nat_cmp_of_eight_bytes : (xs ys : List ℕ) → Bytes xs → Bytes ys → 8 ≤ length xs → 8 ≤ length ys
    → nat_cmp (from_be_bytes w64 (take 8 xs)) (from_be_bytes w64 (take 8 ys)) ≡ slice_cmp nat_cmp (take 8 xs) (take 8 ys)
nat_cmp_of_eight_bytes xs ys a b l m =
    ap (λ n. nat_cmp n (from_be_bytes w64 (take 8 ys))) (from_be_bytes_w64_value xs l) ∙ ap (nat_cmp (value 0 (take 8 xs))) (from_be_bytes_w64_value ys m)
    ∙ nat_cmp_value_take 8 xs ys a b l m

pub nat_cmp_of_four_bytes : (xs ys : List ℕ) → Bytes xs → Bytes ys → 4 ≤ length xs → 4 ≤ length ys
    → nat_cmp (from_be_bytes w32 (take 4 xs)) (from_be_bytes w32 (take 4 ys)) ≡ slice_cmp nat_cmp (take 4 xs) (take 4 ys)
nat_cmp_of_four_bytes xs ys a b l m =
    ap (λ n. nat_cmp n (from_be_bytes w32 (take 4 ys))) (from_be_bytes_w32_value xs l) ∙ ap (nat_cmp (value 0 (take 4 xs))) (from_be_bytes_w32_value ys m)
    ∙ nat_cmp_value_take 4 xs ys a b l m

pub nat_cmp_of_two_bytes : (xs ys : List ℕ) → Bytes xs → Bytes ys → 2 ≤ length xs → 2 ≤ length ys
    → nat_cmp (from_be_bytes w16 (take 2 xs)) (from_be_bytes w16 (take 2 ys)) ≡ slice_cmp nat_cmp (take 2 xs) (take 2 ys)
nat_cmp_of_two_bytes xs ys a b l m =
    ap (λ n. nat_cmp n (from_be_bytes w16 (take 2 ys))) (from_be_bytes_w16_value xs l) ∙ ap (nat_cmp (value 0 (take 2 xs))) (from_be_bytes_w16_value ys m)
    ∙ nat_cmp_value_take 2 xs ys a b l m

-- the first `n` bytes decide the order of names if they differ
pub name_cmp_of_prefix_cmp : (n : ℕ) (xs ys : List ℕ) (t u : Bool) → n ≤ length xs → n ≤ length ys → slice_cmp nat_cmp (take n xs) (take n ys) ≢ Equal
    → slice_cmp nat_cmp (take n xs) (take n ys) ≡ name_cmp xs t ys u
name_cmp_of_prefix_cmp n xs ys t u a b apart = ordering_then_of_decided (slice_cmp nat_cmp (take n xs) (take n ys)) (name_cmp (drop n xs) t (drop n ys) u) apart
    ∙ sym (name_cmp_take_drop n xs ys t u a b)

-- a comparison that finds no difference is a tie
pub equal_of_test : (o : Ordering) → is_ne o ≡ false → o ≡ Equal
equal_of_test Less e = absurd (true≢false e)
equal_of_test Equal e = refl
equal_of_test Greater e = absurd (true≢false e)

pub not_equal_of_test : (o : Ordering) → true ≡ is_ne o → o ≢ Equal
not_equal_of_test o e tie = true≢false (e ∙ ap is_ne tie)
