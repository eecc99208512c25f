-- An encoded time decodes to the same time, and bytes decode to at most one time. The function `parse_header` and the
-- law `time_round_trips` use it.
use Rattle.std.proofs.Common.{◌≡◌, ◌≢◌, ◌<◌, ◌+◌, ◌*◌, ◌/◌, ◌%◌, ◌^◌, ℕ, suc, Bool, true, false, List, [], ◌∷◌, arith, refl, sym, ap, subst, ◌∙◌}
use Rattle.std.proofs.lemmas.Bool.{eqb-true}
use Rattle.std.proofs.lemmas.Fmt.{decimal_is_IsNumeral}
use Rattle.std.proofs.lemmas.List.Elements.{All-cons, All-nil}
use Rattle.std.specs.Char.{digit_value}
use Rattle.std.specs.Fmt.{signed_decimal}
use Rattle.std.specs.Int.{w64}
use Rattle.std.specs.Prelude.{◌==◌, ℤ, pos, negsuc, neg_ℤ, FitsSigned, decimal, if◌then◌else◌}
use Rattle.std.specs.Str.Parse.{AllDigits}
use Rattle.gixobj_hash.proofs.DecodedSizes.{digits_without_minus}
use Rattle.gixobj_hash.proofs.Splits.{no_split_of_byte_free, split_parts_unique}
use Rattle.gixobj_actor.specs.Date.{IsMalformedTime, IsOffset, DecodesToOffset, DecodesToSeconds, DecodesToTime, encode_offset, encode_offset_parts}
use Rattle.gixobj_actor.specs.Date.{seconds_digits, encode_time}
use Rattle.gixobj_hash.specs.ByteStrings.{IsByteFree, SplitsAt}

decimal_digit_ne_space : (byte : ℕ) → digit_value byte < 10 → byte ≢ 32
decimal_digit_ne_space byte digit space =
    let value : digit_value byte ≡ 36 = ap digit_value space in
    omega arith

digits_are_space_free : (bytes : List ℕ) → AllDigits 10 bytes → IsByteFree 32 bytes
digits_are_space_free [] digits = All-nil (λ it. it ≢ 32)
digits_are_space_free (byte ∷ bytes) digits = All-cons (λ it. it ≢ 32) byte bytes (decimal_digit_ne_space byte digits.0) (digits_are_space_free bytes digits.1)

minus_ne_space : (byte : ℕ) → (byte == 45) ≡ true → byte ≢ 32
minus_ne_space byte minus space = omega (arith, eqb-true byte 45 minus)

-- seconds that begin with a minus or a digit have no space
signed_digits_are_space_free : (byte : ℕ) (bytes : List ℕ) (is_minus : Bool) → (byte == 45) ≡ is_minus → AllDigits 10 (seconds_digits (byte ∷ bytes))
    → IsByteFree 32 (byte ∷ bytes)
signed_digits_are_space_free byte bytes true minus digits =
    All-cons (λ it. it ≢ 32) byte bytes (minus_ne_space byte minus) (digits_are_space_free bytes (rw minus at digits))
signed_digits_are_space_free byte bytes false minus digits = digits_are_space_free (byte ∷ bytes) (rw minus at digits)

seconds_are_space_free : (bytes : List ℕ) (seconds : ℤ) → DecodesToSeconds bytes seconds → IsByteFree 32 bytes
seconds_are_space_free [] seconds reads = All-nil (λ it. it ≢ 32)
seconds_are_space_free (byte ∷ bytes) seconds reads = signed_digits_are_space_free byte bytes (byte == 45) refl reads.digits.1

pub malformed_time_without_space : (bytes : List ℕ) → IsByteFree 32 bytes → IsMalformedTime bytes
malformed_time_without_space bytes free seconds offset time =
    no_split_of_byte_free 32 time.first time.second (let P : List ℕ → Type 0 = IsByteFree 32 in subst P time.joined free)

-- the bytes before and after the first space decode to the seconds and the offset of the time
pub time_splits_at_space : (bytes prefix rest : List ℕ) (seconds offset : ℤ) → SplitsAt 32 bytes prefix rest → DecodesToTime bytes seconds offset
    → DecodesToSeconds prefix seconds × DecodesToOffset rest offset
time_splits_at_space bytes prefix rest seconds offset split time =
    let parts = split_parts_unique 32 time.first time.second prefix rest (seconds_are_space_free time.first seconds time.seconds_bytes) split.first
    (sym time.joined ∙ split.joined) in
    let S : List ℕ → Type 0 = λ it. DecodesToSeconds it seconds in
    let O : List ℕ → Type 0 = λ it. DecodesToOffset it offset in
    (subst S parts.0 time.seconds_bytes, subst O parts.1 time.offset_bytes)

decimal_decodes_to_seconds : (size : ℕ) → size < 2 ^ 64 → FitsSigned w64 (pos size) → DecodesToSeconds (decimal size) (pos size)
decimal_decodes_to_seconds size small fits =
    let written = decimal_is_IsNumeral size small in
    let unsigned = digits_without_minus (decimal size) written.0 in
    record {
      digits = rw unsigned.0 written.0;
      value = rw unsigned.0 (ap pos (sym written.1));
      fits = fits;
    }

signed_decimal_decodes_to_seconds : (seconds : ℤ) → FitsSigned w64 seconds → DecodesToSeconds (signed_decimal seconds) seconds
signed_decimal_decodes_to_seconds (pos size) fits = decimal_decodes_to_seconds size (omega arith) fits
signed_decimal_decodes_to_seconds (negsuc size) fits =
    let written = decimal_is_IsNumeral (suc size) (omega arith) in
    record {
      digits = written.0;
      value = ap (λ it. neg_ℤ (pos it)) (sym written.1);
      fits = fits;
    }

seconds_in_hours_and_minutes : (size : ℕ) → size % 60 ≡ 0 → size ≡ 60 * (60 * (size / 60 / 60) + size / 60 % 60)
seconds_in_hours_and_minutes size minutes = omega arith

encode_offset_decodes : (offset : ℤ) → IsOffset offset → DecodesToOffset (encode_offset offset) offset
encode_offset_decodes (pos size) proper =
    record {
      is_minus = false;
      hours = size / 60 / 60;
      minutes = size / 60 % 60;
      encoded = refl;
      hours_fit = omega arith;
      minutes_fit = omega arith;
      value = ap pos (seconds_in_hours_and_minutes size proper.0);
    }
encode_offset_decodes (negsuc size) proper =
    record {
      is_minus = true;
      hours = suc size / 60 / 60;
      minutes = suc size / 60 % 60;
      encoded = refl;
      hours_fit = omega arith;
      minutes_fit = omega arith;
      value = ap (λ it. neg_ℤ (pos it)) (seconds_in_hours_and_minutes (suc size) proper.0);
    }

pub encode_time_decodes : (seconds offset : ℤ) → FitsSigned w64 seconds → IsOffset offset → DecodesToTime (encode_time seconds offset) seconds offset
encode_time_decodes seconds offset fits proper =
    record {
      first = signed_decimal seconds;
      second = encode_offset offset;
      joined = refl;
      seconds_bytes = signed_decimal_decodes_to_seconds seconds fits;
      offset_bytes = encode_offset_decodes offset proper;
    }

-- unique decoding of each part
two_digits_injective : (a b : ℕ) → 48 + a / 10 ≡ 48 + b / 10 → 48 + a % 10 ≡ 48 + b % 10 → a ≡ b
two_digits_injective a b tens ones = omega arith

sign_byte_injective : (a b : Bool) → ◌≡◌ {A = ℕ} (if a then 45 else 43) (if b then 45 else 43) → a ≡ b
sign_byte_injective true true same = refl
sign_byte_injective false false same = refl
sign_byte_injective true false same = absurd (omega (arith, same))
sign_byte_injective false true same = absurd (omega (arith, same))

offset_unique : (bytes : List ℕ) (a b : ℤ) → DecodesToOffset bytes a → DecodesToOffset bytes b → a ≡ b
offset_unique bytes a b first second =
    let encodings : encode_offset_parts first.is_minus first.hours first.minutes ≡ encode_offset_parts second.is_minus second.hours second.minutes =
    sym first.encoded ∙ second.encoded in
    let sign = sign_byte_injective first.is_minus second.is_minus (cc encodings) in
    let hours = two_digits_injective first.hours second.hours (cc encodings) (cc encodings) in
    let minutes = two_digits_injective first.minutes second.minutes (cc encodings) (cc encodings) in
    let size : 60 * (60 * first.hours + first.minutes) ≡ 60 * (60 * second.hours + second.minutes) = omega arith in
    first.value ∙ cc (sign, size) ∙ sym second.value

pub time_unique : (bytes : List ℕ) (seconds offset seconds' offset' : ℤ) → DecodesToTime bytes seconds offset → DecodesToTime bytes seconds' offset'
    → (seconds ≡ seconds') × (offset ≡ offset')
time_unique bytes seconds offset seconds' offset' first second =
    let split : SplitsAt 32 bytes first.first first.second =
    record { joined = first.joined; first = seconds_are_space_free first.first seconds first.seconds_bytes } in
    let other = time_splits_at_space bytes first.first first.second seconds' offset' split second in
    (first.seconds_bytes.value ∙ sym other.0.value, offset_unique first.second offset offset' first.offset_bytes other.1)
