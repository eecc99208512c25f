-- The first occurrence of a byte among the first bytes, by a mask with a bit for each byte.
use Rattle.std.proofs.Common.{add-one, ◌≡◌, ◌≢◌, ◌<◌, ◌≤◌, ◌+◌, ◌*◌, ◌∷◌, ℕ, zero, suc, Bool, IsTrue, cond, false, true, List, [], ap, arith, drop, eqb, get_or}
use Rattle.std.proofs.Common.{inl, inr, length, map, not, subst, sym, take, ◌∙◌}
use Rattle.std.proofs.lemmas.Bool.{cases_lt, eqb-true}
use Rattle.std.proofs.lemmas.Bool.Decides.{eqb_tells}
use Rattle.std.proofs.lemmas.List.Elements.{All-cons, All-from_get_or, All-nil}
use Rattle.std.proofs.lemmas.Simd.{none_from_empty_mask}
use Rattle.std.specs.List.{prefix_len}
use Rattle.std.specs.Simd.Lanes.{chunk, mask_l}
use Rattle.gixobj_hash.specs.ByteStrings.{IsByteFree, SplitsAt}

-- the mask: the bit of a byte is set if it is this byte
abbrev pub byte_bits : ℕ → List ℕ → ℕ
byte_bits byte bytes = mask_l (map (λ x. eqb x byte) bytes)

-- the number of bytes before the first occurrence
abbrev pub before_byte : ℕ → List ℕ → ℕ
before_byte byte bytes = prefix_len (λ x. not (eqb x byte)) bytes

-- the first occurrence is at `n`, among the first `m` bytes
abbrev pub IsNear : ℕ → ℕ → List ℕ → ℕ → Type 0
IsNear byte m content n = (n < m) × SplitsAt byte content (take n content) (drop (suc n) content)

near_here : (byte m x : ℕ) (content : List ℕ) → eqb x byte ≡ true → x ≡ byte
    → IsNear byte (suc m) (x ∷ content) (before_byte byte (x ∷ take m content))
near_here byte m x content test same =
    let none : before_byte byte (x ∷ take m content) ≡ 0 =
    ap (λ (b : Bool). cond (not b) (1 + before_byte byte (take m content)) 0) test in
    let P : ℕ → Type 0 = λ it. IsNear byte (suc m) (x ∷ content) it in
    let here : P 0 = (omega arith, record { joined = ap (λ (it : ℕ). it ∷ content) same; first = All-nil (λ it. it ≢ byte) }) in
    subst P (sym none) here

bits_later : (byte x : ℕ) (bytes : List ℕ) → eqb x byte ≡ false → byte_bits byte (x ∷ bytes) ≡ 2 * byte_bits byte bytes
bits_later byte x bytes test = ap (λ (b : Bool). cond b 1 0 + 2 * byte_bits byte bytes) test ∙ omega arith

near_later : (byte m x k n : ℕ) (content : List ℕ) → x ≢ byte → n ≡ 1 + k → IsNear byte m content k → IsNear byte (suc m) (x ∷ content) n
near_later byte m x k n content other is near =
    let next : suc k ≡ n = omega arith in
    let there : IsNear byte (suc m) (x ∷ content) (suc k) = (
      omega (arith, near.0),
      record {
        joined = ap (λ (it : List ℕ). x ∷ it) near.1.joined;
        first = All-cons (λ it. it ≢ byte) x (take k content) other near.1.first;
      },
    ) in
    let P : ℕ → Type 0 = λ it. IsNear byte (suc m) (x ∷ content) it in
    subst P next there

is_near_of_bits : (byte m : ℕ) (content : List ℕ) → 0 < byte_bits byte (take m content)
    → IsNear byte m content (before_byte byte (take m content))
is_near_of_bits byte zero content some = absurd (omega arith)
is_near_of_bits byte (suc m) [] some = absurd (omega arith)
is_near_of_bits byte (suc m) (x ∷ content) some = elim (eqb_tells x byte) [
  | inl here ↦ near_here byte m x content here.0 here.1
  | inr other ↦
      near_later byte m x (before_byte byte (take m content)) (before_byte byte (x ∷ take m content)) content other.1
      (ap (λ (b : Bool). cond (not b) (1 + before_byte byte (take m content)) 0) other.0)
      (is_near_of_bits byte m content (omega (arith, some, bits_later byte x (take m content) other.0)))
]

-- a mask other than zero has a bit
pub bit_of_nonzero : (m n : ℕ) → m ≡ n → (m ≡ 0 → ⊥) → 0 < n
bit_of_nonzero m zero same some = absurd (some same)
bit_of_nonzero m (suc n) same some = omega arith

-- a mask that is zero has no bit
pub zero_of_test : (m n : ℕ) → m ≡ n → IsTrue (eqb m 0) → n ≡ 0
zero_of_test m n same is = sym same ∙ eqb-true m 0 is

-- the lowest bit of the mask is that of the first occurrence
pub splits_within_block : (byte : ℕ) (content : List ℕ) (at : ℕ) → 0 < byte_bits byte (take 32 content)
    → at ≡ before_byte byte (take 32 content) → (at < 32) × SplitsAt byte content (take at content) (drop (at + 1) content)
splits_within_block byte content at some is =
    let near : IsNear byte 32 content (before_byte byte (take 32 content)) = is_near_of_bits byte 32 content some in
    let P : ℕ → Type 0 = λ it. IsNear byte 32 content it in
    let here : IsNear byte 32 content at = subst P (sym is) near in
    rw (add-one at) here

-- ---- names of 8 to 16 bytes, as two blocks of eight

-- no byte of the block is this one
abbrev pub IsFreeBlock : ℕ → List ℕ → ℕ → Type 0
IsFreeBlock byte name from = (k : ℕ) → from ≤ k → k < from + 8 → get_or name k 0 ≢ byte

pub free_block : (byte : ℕ) (name : List ℕ) (from : ℕ) → from + 8 ≤ length name → byte_bits byte (chunk from 8 name) ≡ 0 → IsFreeBlock byte name from
free_block byte name from room none k low high is =
    let test : eqb (get_or name k 0) byte ≡ false = none_from_empty_mask (λ x. eqb x byte) name from 8 0 room none k low high in
    elim (eqb_tells (get_or name k 0) byte) [
      | inl here ↦ (let first = here.0 in cc (first, test))
      | inr other ↦ other.1 is
    ]

-- the first and the last eight bytes are all bytes
pub free_of_blocks : (byte : ℕ) (name : List ℕ) (last : ℕ) → length name ≤ 16 → last + 8 ≡ length name → IsFreeBlock byte name 0
    → IsFreeBlock byte name last → IsByteFree byte name
free_of_blocks byte name last short ends first second = All-from_get_or (λ it. it ≢ byte) name 0 (λ k within. either k within)
  where
    either : (k : ℕ) → k < length name → get_or name k 0 ≢ byte
    either k within = elim (cases_lt k 8) [
      | inl low ↦ first k (omega arith) (omega (arith, low))
      | inr high ↦ second k (omega (arith, high)) (omega arith)
    ]
