-- The first zero byte among the first bytes, by a mask with a bit for each byte.
use Rattle.std.proofs.Common.{add-one, ◌≡◌, ◌≢◌, ◌<◌, ◌+◌, ◌*◌, ◌∷◌, ℕ, zero, suc, Bool, cond, false, List, [], ap, arith, drop, eqb, map, not, refl, subst}
use Rattle.std.proofs.Common.{sym, take, ◌∙◌}
use Rattle.std.proofs.lemmas.Bool.{ne_eqb}
use Rattle.std.proofs.lemmas.List.Elements.{All-cons, All-nil}
use Rattle.std.specs.List.{prefix_len}
use Rattle.std.specs.Simd.Lanes.{mask_l}
use Rattle.gixobj_hash.specs.ByteStrings.{IsByteFree, SplitsAt}

-- the mask: the bit of a byte is set if the byte is zero
abbrev pub zero_bits : List ℕ → ℕ
zero_bits bytes = mask_l (map (λ x. eqb x 0) bytes)

-- the number of bytes before the first zero byte
abbrev pub before_zero : List ℕ → ℕ
before_zero bytes = prefix_len (λ x. not (eqb x 0)) bytes

-- the first zero byte is at `n`, among the first `m` bytes
abbrev pub IsNearZero : ℕ → List ℕ → ℕ → Type 0
IsNearZero m content n = (n < m) × SplitsAt 0 content (take n content) (drop (suc n) content)

suc_ne_zero : (x : ℕ) → suc x ≡ 0 → ⊥
suc_ne_zero x e = omega arith

eqb_suc_zero : (x : ℕ) → eqb (suc x) 0 ≡ false
eqb_suc_zero x = ne_eqb (suc x) 0 (suc_ne_zero x)

zero_bits_cons_suc : (x : ℕ) (bytes : List ℕ) → zero_bits (suc x ∷ bytes) ≡ 2 * zero_bits bytes
zero_bits_cons_suc x bytes = ap (λ (b : Bool). cond b 1 0 + 2 * zero_bits bytes) (eqb_suc_zero x) ∙ omega arith

before_zero_cons_suc : (x : ℕ) (bytes : List ℕ) → before_zero (suc x ∷ bytes) ≡ 1 + before_zero bytes
before_zero_cons_suc x bytes = ap (λ (b : Bool). cond (not b) (1 + before_zero bytes) 0) (eqb_suc_zero x)

is_near_zero_cons_suc : (m x k n : ℕ) (content : List ℕ) → n ≡ 1 + k → IsNearZero m content k → IsNearZero (suc m) (suc x ∷ content) n
is_near_zero_cons_suc m x k n content is near =
    let next : suc k ≡ n = omega arith in
    let there : IsNearZero (suc m) (suc x ∷ content) (suc k) = (
      omega (arith, near.0),
      record {
        joined = ap (λ (it : List ℕ). suc x ∷ it) near.1.joined;
        first = All-cons (λ it. it ≢ 0) (suc x) (take k content)
            (suc_ne_zero x) near.1.first;
      },
    ) in
    let P : ℕ → Type 0 = λ it. IsNearZero (suc m) (suc x ∷ content) it in
    subst P next there

pub is_near_zero_of_bits : (m : ℕ) (content : List ℕ) → 0 < zero_bits (take m content) → IsNearZero m content (before_zero (take m content))
is_near_zero_of_bits zero content some = absurd (omega arith)
is_near_zero_of_bits (suc m) [] some = absurd (omega arith)
is_near_zero_of_bits (suc m) (zero ∷ content) some = (omega arith, record { joined = refl; first = All-nil (λ it. it ≢ 0) })
is_near_zero_of_bits (suc m) (suc x ∷ content) some =
    is_near_zero_cons_suc m x (before_zero (take m content)) (before_zero (take (suc m) (suc x ∷ content))) content (before_zero_cons_suc x (take m content))
    (is_near_zero_of_bits m content (omega (arith, some, zero_bits_cons_suc x (take m content))))

pub byte_free_of_no_bits : (bytes : List ℕ) → zero_bits bytes ≡ 0 → IsByteFree 0 bytes
byte_free_of_no_bits [] none = All-nil (λ it. it ≢ 0)
byte_free_of_no_bits (zero ∷ bytes) none = absurd (omega arith)
byte_free_of_no_bits (suc x ∷ bytes) none = All-cons (λ it. it ≢ 0) (suc x) bytes (suc_ne_zero x)
    (byte_free_of_no_bits bytes (omega (arith, none, zero_bits_cons_suc x bytes)))

-- a mask other than zero has a bit
pub len_pos_of_bit : (m n : ℕ) → m ≡ n → (m ≡ 0 → ⊥) → 0 < n
len_pos_of_bit m zero same some = absurd (some same)
len_pos_of_bit m (suc n) same some = omega arith

pub splits_at_zero_within_block : (content : List ℕ) (at : ℕ) → 0 < zero_bits (take 32 content) → at ≡ before_zero (take 32 content) → (at < 32)
    × SplitsAt 0 content (take at content) (drop (at + 1) content)
splits_at_zero_within_block content at some is =
    let near : IsNearZero 32 content (before_zero (take 32 content)) = is_near_zero_of_bits 32 content some in
    let P : ℕ → Type 0 = λ it. IsNearZero 32 content it in
    let here : IsNearZero 32 content at = subst P (sym is) near in
    rw (add-one at) here
