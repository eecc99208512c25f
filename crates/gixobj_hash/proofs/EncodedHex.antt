-- Encoded hex is in lower case, decodes to the same bytes, and re-encodes identically; the laws of hex in module
-- `laws` use it.
use Rattle.std.proofs.Common.{◌≡◌, ◌<◌, ◌+◌, ◌*◌, ◌/◌, ◌%◌, ◌==◌, ◌||◌, ℕ, suc, Bool, true, not, List, [], ◌∷◌, length, slice_index, unwrap_or, ◌⊎◌, inl, inr}
use Rattle.std.proofs.Common.{Some, Ok, arith, refl, ap, sym, ◌∙◌}
use Rattle.std.proofs.lemmas.Bool.{eqb-true}
use Rattle.std.proofs.lemmas.List.Elements.{All-cons, All-head, All-nil, All-tail}
use Rattle.std.specs.List.{AllPass}
use Rattle.hex.proofs.HexLemmas.{decode_of-encode_lower, decode_of-even, decode_of-ok, length-encode_with}
use Rattle.hex.specs.Hex.{IsBytes, decode_pairs, encode_lower, encode_with, hex_digit_value, lower_digits, pair_value, value_at}
use Rattle.gixobj_hash.specs.Hash.{IsIdHex, IsId, DecodesToId, hash_len, encode_id_hex, id_bytes, id_kind, is_lower_hex_digit}
use Rattle.gixobj_hash.specs.declared.hash.object_id.ObjectId.{ObjectId}
use Rattle.gixobj_hash.specs.declared.hash.object_id.ObjectId.TheVariants.{Sha1, Sha256}
use Rattle.gixobj_hash.proofs.HexSteps.{IsLower, all_pass_at, ok_of_bind, true_of_cond, hex_digit_value_some, hex_value_lt_sixteen}

-- each of the sixteen encoded digits is in lower case
abbrev is_lower_at : ℕ → Bool
is_lower_at n = is_lower_hex_digit (slice_index lower_digits n)

bytes-head : (byte : ℕ) (bytes : List ℕ) → IsBytes (byte ∷ bytes) → byte < 256
bytes-head byte bytes small = small 0

bytes-tail : (byte : ℕ) (bytes : List ℕ) → IsBytes (byte ∷ bytes) → IsBytes bytes
bytes-tail byte bytes small = λ i. small (suc i)

pub encode_lower_is_lower_hex : (bytes : List ℕ) → IsBytes bytes → AllPass is_lower_hex_digit (encode_lower bytes)
unfolding encode_with
encode_lower_is_lower_hex [] small = All-nil IsLower
encode_lower_is_lower_hex (byte ∷ bytes) small =
    let low = bytes-head byte bytes small in
    let high_digit = all_pass_at is_lower_at 16 (byte / 16) refl (omega arith) in
    let low_digit = all_pass_at is_lower_at 16 (byte % 16) refl (omega arith) in
    All-cons IsLower (slice_index lower_digits (byte / 16)) (slice_index lower_digits (byte % 16) ∷ encode_lower bytes) high_digit
    (All-cons IsLower (slice_index lower_digits (byte % 16)) (encode_lower bytes) low_digit (encode_lower_is_lower_hex bytes (bytes-tail byte bytes small)))

-- a digit in lower case is the encoded digit of its value
abbrev is_written : ℕ → Bool
is_written byte = not (is_lower_hex_digit byte) || (slice_index lower_digits (unwrap_or (hex_digit_value byte) 0) == byte)

lower_hex_digit_lt_103 : (byte : ℕ) → is_lower_hex_digit byte ≡ true → byte < 103
lower_hex_digit_lt_103 byte lower = grind (arith, lower)

lower_digit_of_hex_digit_value : (byte value : ℕ) → is_lower_hex_digit byte ≡ true → hex_digit_value byte ≡ Some value → slice_index lower_digits value ≡ byte
lower_digit_of_hex_digit_value byte value lower reads =
    let written = all_pass_at is_written 103 byte refl (lower_hex_digit_lt_103 byte lower) in
    let same = eqb-true (slice_index lower_digits (unwrap_or (hex_digit_value byte) 0)) byte (true_of_cond (is_lower_hex_digit byte) _ written lower) in
    ap (λ it. slice_index lower_digits (unwrap_or it 0)) (sym reads) ∙ same

pub encode_lower_of_decoded : (i : ℕ) (content bytes : List ℕ) → AllPass is_lower_hex_digit content → decode_pairs i content ≡ Ok bytes
    → encode_lower bytes ≡ content
unfolding decode_pairs encode_with
encode_lower_of_decoded i [] bytes lower ok =
    let none : [] ≡ bytes = cc ok in
    rw (← none) refl
encode_lower_of_decoded i (digit ∷ []) bytes lower ok = cc ok
encode_lower_of_decoded i (high ∷ low ∷ content) bytes lower ok =
    let lower_bytes = All-tail IsLower high (low ∷ content) lower in
    let pair = ok_of_bind (pair_value high low i) _ bytes ok in
    let rest = ok_of_bind (decode_pairs (i + 2) content) _ bytes pair.2 in
    let first = ok_of_bind (value_at high i) _ pair.0 pair.1 in
    let second = ok_of_bind (value_at low (i + 1)) _ pair.0 first.2 in
    let high_value = hex_digit_value_some high i first.0 (hex_digit_value high) first.1 in
    let low_value = hex_digit_value_some low (i + 1) second.0 (hex_digit_value low) second.1 in
    let small_high = hex_value_lt_sixteen high first.0 high_value in
    let small_low = hex_value_lt_sixteen low second.0 low_value in
    let byte : first.0 * 16 + second.0 ≡ pair.0 = cc second.2 in
    let all : pair.0 ∷ rest.0 ≡ bytes = cc rest.2 in
    let over : pair.0 / 16 ≡ first.0 = omega arith in
    let under : pair.0 % 16 ≡ second.0 = omega arith in
    let one = ap (slice_index lower_digits) over ∙ lower_digit_of_hex_digit_value high first.0 (All-head IsLower high (low ∷ content) lower) high_value in
    let two = ap (slice_index lower_digits) under ∙ lower_digit_of_hex_digit_value low second.0 (All-head IsLower low content lower_bytes) low_value in
    let more = encode_lower_of_decoded (i + 2) content rest.0 (All-tail IsLower low content lower_bytes) rest.1 in
    rw (← all) (cc (one, two, more))

-- the laws of ids

pub encode_id_hex_decodes : (id : ObjectId) → IsId id → DecodesToId (encode_id_hex id) id
encode_id_hex_decodes id proper = record {
  len = length-encode_with lower_digits (id_bytes id) ∙ ap (λ n. 2 * n) proper.0;
  digits = decode_of-encode_lower (id_bytes id) proper.1;
}

pub encode_id_hex_of_decoded : (content : List ℕ) (id : ObjectId) → AllPass is_lower_hex_digit content → DecodesToId content id → encode_id_hex id ≡ content
encode_id_hex_of_decoded content id lower spells =
    let read = decode_of-ok content (id_bytes id) spells.digits in
    encode_lower_of_decoded 0 content (id_bytes id) lower (sym (decode_of-even content read.0) ∙ spells.digits)

id_hex_len_is_40_or_64 : (content : List ℕ) (id : ObjectId) → length content ≡ 2 * hash_len (id_kind id) → (length content ≡ 40) ⊎ (length content ≡ 64)
id_hex_len_is_40_or_64 content (Sha1 bytes) len = inl len
id_hex_len_is_40_or_64 content (Sha256 bytes) len = inr len

pub is_id_hex_of_decodes : (content : List ℕ) (id : ObjectId) → DecodesToId content id → IsIdHex content
is_id_hex_of_decodes content id spells = (id_hex_len_is_40_or_64 content id spells.len, (decode_of-ok content (id_bytes id) spells.digits).1)
