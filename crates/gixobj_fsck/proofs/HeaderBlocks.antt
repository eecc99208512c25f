-- Blocks of a header without zero bytes and empty lines, by numbers with a bit for each byte.
use Rattle.std.proofs.Common.{◌≡◌, ◌<◌, ◌≤◌, ◌+◌, ◌-◌, ℕ, IsTrue, rules, Bool, true, false, List, ap, arith, bit_and, cond, get_or, length, map, min, nat_eq}
use Rattle.std.proofs.Common.{sym, ◌∙◌}
use Rattle.std.proofs.lemmas.List.{get_or-map}
use Rattle.std.proofs.lemmas.Nat.Bits.{bit_at_and, bit_at-zero}
use Rattle.std.proofs.lemmas.Simd.{bit_mask_l, get_or-chunk, length-chunk}
use Rattle.std.specs.Int.{bit_at}
use Rattle.std.specs.Simd.Lanes.{chunk}
use Rattle.gixobj_fsck.specs.Headers.{HasEmptyLineAt, IsPlainBetween, marks_from}

-- the test that a byte is this one
abbrev pub is_byte : ℕ → ℕ → Bool
is_byte byte it = nat_eq it byte

same_byte : (it byte : ℕ) → it ≡ byte → is_byte byte it ≡ true
same_byte it byte same = rw same (itself byte)
  where
    itself : (it : ℕ) → nat_eq it it ≡ true
    itself it = grind arith

-- the bit of this byte is 1
bit_of_byte : (input : List ℕ) (from k position byte : ℕ) → from + 32 ≤ length input → k < 32 → from + k ≡ position
    → get_or input position 0 ≡ byte → bit_at (marks_from input from byte) k ≡ 1
bit_of_byte input from k position byte room small there is =
    let block = chunk from 32 input in
    let long : k < length block = omega (arith, length-chunk from 32 input room) in
    let here : get_or block k 0 ≡ byte = get_or-chunk from 32 input k 0 small ∙ ap (λ (it : ℕ). get_or input it 0) there ∙ is in
    let marked : get_or (map (is_byte byte) block) k false ≡ true =
    get_or-map (is_byte byte) block k 0 false long ∙ same_byte (get_or block k 0) byte here in
    bit_mask_l (map (is_byte byte) block) k ∙ ap (λ (it : Bool). cond it 1 0) marked

not_marked : (input : List ℕ) (from position byte : ℕ) → from + 32 ≤ length input → marks_from input from byte ≡ 0 → from ≤ position
    → position < from + 32 → get_or input position 0 ≡ byte → ⊥
not_marked input from position byte room none low high is =
    let one = bit_of_byte input from (position - from) position byte room (omega arith) (omega arith) is in
    let zero : bit_at (marks_from input from byte) (position - from) ≡ 0 =
    ap (λ (it : ℕ). bit_at it (position - from)) none ∙ bit_at-zero (position - from) in
    cc (one, zero)

-- where no zero is marked, and no byte is marked as a newline together with the next one
pub plain_of_marks : (input : List ℕ) (from : ℕ) → from + 32 < length input → marks_from input from 0 ≡ 0
    → bit_and (marks_from input from 10) (marks_from input (from + 1) 10) ≡ 0 → IsPlainBetween input from (from + 32)
plain_of_marks input from room zeros pairs position low high = (
  λ (zero : get_or input position 0 ≡ 0). not_marked input from position 0 (omega arith) zeros low high zero,
  λ (both : HasEmptyLineAt input position).
      let k = position - from in
      let small : k < 32 = omega arith in
      let there : from + k ≡ position = omega arith in
      let next : (from + 1) + k ≡ position + 1 = omega arith in
      let first = bit_of_byte input from k position 10 (omega arith) small there both.0 in
      let second = bit_of_byte input (from + 1) k (position + 1) 10 (omega arith) small next both.1 in
      let meet = bit_at_and (marks_from input from 10) (marks_from input (from + 1) 10) k in
      let none : bit_at (bit_and (marks_from input from 10) (marks_from input (from + 1) 10)) k ≡ 0 =
      ap (λ (it : ℕ). bit_at it k) pairs ∙ bit_at-zero k in
      let later = ap (λ (it : ℕ). min it (bit_at (marks_from input (from + 1) 10) k)) (sym first) in
      let smallest : min 1 1 ≡ 0 = ap (λ (it : ℕ). min 1 it) (sym second) ∙ later ∙ sym meet ∙ none in
      absurd (omega arith),
)

-- the same, as the code tests it
pub plain_of_tests : (input : List ℕ) (from first newlines following : ℕ) → from + 32 < length input → first ≡ marks_from input from 0
    → newlines ≡ marks_from input from 10 → following ≡ marks_from input (from + 1) 10 → first ≡ 0
    → IsTrue (nat_eq (bit_and newlines following) 0) → IsPlainBetween input from (from + 32)
plain_of_tests input from first newlines following room first_are newlines_are following_are none apart =
    let pairs : bit_and newlines following ≡ 0 = search rules in
    plain_of_marks input from room (sym first_are ∙ none)
    (ap (λ (it : ℕ). bit_and it (marks_from input (from + 1) 10)) (sym newlines_are) ∙ ap (λ (it : ℕ). bit_and newlines it) (sym following_are) ∙ pairs)
