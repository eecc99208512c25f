-- Hex that decodes to an id re-encodes in lower case.
use Rattle.std.proofs.Common.{◌≡◌, ◌<◌, ◌+◌, ◌*◌, ◌/◌, ◌%◌, ◌==◌, ◌||◌, ℕ, Bool, true, not, List, [], ◌∷◌, slice_index, unwrap_or, Some, is_some, Ok, arith}
use Rattle.std.proofs.Common.{refl, ap, sym, ◌∙◌}
use Rattle.std.proofs.lemmas.Bool.{eqb-true}
use Rattle.std.proofs.lemmas.List.Elements.{All-head, All-tail}
use Rattle.std.specs.Char.{to_ascii_lowercase}
use Rattle.std.specs.List.{AllPass}
use Rattle.std.specs.Str.{str_to_ascii_lowercase}
use Rattle.hex.proofs.HexLemmas.{decode_of-even, decode_of-ok}
use Rattle.hex.specs.Hex.{decode_pairs, encode_lower, encode_with, hex_digit_value, is_hex_digit, lower_digits, pair_value, value_at}
use Rattle.gixobj_hash.specs.Hash.{DecodesToId, encode_id_hex, id_bytes, is_lower_hex_digit}
use Rattle.gixobj_hash.specs.declared.hash.object_id.ObjectId.{ObjectId}
use Rattle.gixobj_hash.proofs.HexSteps.{IsLower, all_pass_at, ok_of_bind, true_of_cond, hex_digit_value_some, hex_value_lt_sixteen}

-- a hex digit in lower case is the encoded digit of its value, for each case of the digit
abbrev is_written : ℕ → Bool
is_written byte = not (is_hex_digit byte) || (slice_index lower_digits (unwrap_or (hex_digit_value byte) 0) == to_ascii_lowercase byte)

hex_digit_lt_103 : (byte value : ℕ) → hex_digit_value byte ≡ Some value → byte < 103
hex_digit_lt_103 byte value reads = grind arith

lower_digit_of_hex_digit_value : (byte value : ℕ) → hex_digit_value byte ≡ Some value → slice_index lower_digits value ≡ to_ascii_lowercase byte
lower_digit_of_hex_digit_value byte value reads =
    let written = all_pass_at is_written 103 byte refl (hex_digit_lt_103 byte value reads) in
    let digit : is_hex_digit byte ≡ true = ap is_some reads in
    let same = eqb-true (slice_index lower_digits (unwrap_or (hex_digit_value byte) 0)) (to_ascii_lowercase byte)
    (true_of_cond (is_hex_digit byte) _ written digit) in
    ap (λ it. slice_index lower_digits (unwrap_or it 0)) (sym reads) ∙ same

encode_lower_decode_pairs : (i : ℕ) (content bytes : List ℕ) → decode_pairs i content ≡ Ok bytes → encode_lower bytes ≡ str_to_ascii_lowercase content
unfolding decode_pairs encode_with
encode_lower_decode_pairs i [] bytes ok =
    let none : [] ≡ bytes = cc ok in
    rw (← none) refl
encode_lower_decode_pairs i (digit ∷ []) bytes ok = cc ok
encode_lower_decode_pairs i (high ∷ low ∷ content) bytes ok =
    let pair = ok_of_bind (pair_value high low i) _ bytes ok in
    let rest = ok_of_bind (decode_pairs (i + 2) content) _ bytes pair.2 in
    let first = ok_of_bind (value_at high i) _ pair.0 pair.1 in
    let second = ok_of_bind (value_at low (i + 1)) _ pair.0 first.2 in
    let high_value = hex_digit_value_some high i first.0 (hex_digit_value high) first.1 in
    let low_value = hex_digit_value_some low (i + 1) second.0 (hex_digit_value low) second.1 in
    let small_high = hex_value_lt_sixteen high first.0 high_value in
    let small_low = hex_value_lt_sixteen low second.0 low_value in
    let byte : first.0 * 16 + second.0 ≡ pair.0 = cc second.2 in
    let all : pair.0 ∷ rest.0 ≡ bytes = cc rest.2 in
    let over : pair.0 / 16 ≡ first.0 = omega arith in
    let under : pair.0 % 16 ≡ second.0 = omega arith in
    let one = ap (slice_index lower_digits) over ∙ lower_digit_of_hex_digit_value high first.0 high_value in
    let two = ap (slice_index lower_digits) under ∙ lower_digit_of_hex_digit_value low second.0 low_value in
    let more = encode_lower_decode_pairs (i + 2) content rest.0 rest.1 in
    rw (← all) (cc (one, two, more))

-- the re-encoded hex of an id is the decoded hex in lower case
pub encode_id_hex_lower_case : (content : List ℕ) (id : ObjectId) → DecodesToId content id → encode_id_hex id ≡ str_to_ascii_lowercase content
encode_id_hex_lower_case content id spells =
    let read = decode_of-ok content (id_bytes id) spells.digits in
    encode_lower_decode_pairs 0 content (id_bytes id) (sym (decode_of-even content read.0) ∙ spells.digits)

-- the lower case of hex in lower case is unchanged
to_ascii_lowercase_of_lower_hex_digit : (byte : ℕ) → is_lower_hex_digit byte ≡ true → to_ascii_lowercase byte ≡ byte
to_ascii_lowercase_of_lower_hex_digit byte lower = grind (arith, lower)

pub lower_case_of_lower_hex : (content : List ℕ) → AllPass is_lower_hex_digit content → str_to_ascii_lowercase content ≡ content
lower_case_of_lower_hex [] lower = refl
lower_case_of_lower_hex (byte ∷ content) lower =
    let first = to_ascii_lowercase_of_lower_hex_digit byte (All-head IsLower byte content lower) in
    let rest = lower_case_of_lower_hex content (All-tail IsLower byte content lower) in
    cc (first, rest)
