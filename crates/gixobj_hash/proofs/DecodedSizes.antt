-- Sizes decode uniquely, without a fault, and have no zero byte.
use Rattle.std.proofs.Common.{◌≡◌, ◌≢◌, ◌<◌, ◌^◌, slice_index, ℕ, Bool, true, false, cond, List, [], ◌∷◌, length, drop, arith, lit<, refl, inl, inr, ap, sym}
use Rattle.std.proofs.Common.{◌∙◌}
use Rattle.std.proofs.lemmas.Bool.{eqb-true, true≢false}
use Rattle.std.proofs.lemmas.Bool.Decides.{eqb_tells}
use Rattle.std.proofs.lemmas.Fmt.{decimal_is_IsNumeral}
use Rattle.std.proofs.lemmas.Str.Parse.{digit_at}
use Rattle.std.proofs.lemmas.List.Elements.{All-cons, All-nil}
use Rattle.std.specs.Char.{digit_value}
use Rattle.std.specs.Prelude.{◌==◌, decimal}
use Rattle.std.specs.Str.Parse.{AllDigits, IsNumeral, starts_with_minus}
use Rattle.gixobj_hash.specs.Decode.{HasSizeFault, DecodesToSize, size_digits}
use Rattle.gixobj_hash.specs.ByteStrings.{IsByteFree}
use Rattle.gixobj_hash.specs.declared.decode.ParseIntegerErrorKind.{ParseIntegerErrorKind}
use Rattle.gixobj_hash.specs.declared.decode.ParseIntegerErrorKind.TheVariants.{Empty, InvalidDigit, NegOverflow, PosOverflow}

pub no_size_fault_of_digits : (bytes : List ℕ) (size : ℕ) (fault : ParseIntegerErrorKind) → DecodesToSize bytes size → HasSizeFault bytes fault → ⊥
no_size_fault_of_digits bytes size Empty reads fault =
    let none : length (size_digits bytes) ≡ 0 = ap length fault in
    omega (arith, reads.digits.0)
no_size_fault_of_digits bytes size InvalidDigit reads fault = fault.1 reads.digits
no_size_fault_of_digits bytes size PosOverflow reads fault = omega (arith, reads.value, reads.fits, fault.2)
no_size_fault_of_digits bytes size NegOverflow reads fault = fault.2 (sym reads.value ∙ reads.minus fault.1)

decimal_digit_ne_zero : (byte : ℕ) → digit_value byte < 10 → byte ≢ 0
decimal_digit_ne_zero byte digit zero =
    let value : digit_value byte ≡ 36 = ap digit_value zero in
    omega arith

digits_are_zero_byte_free : (bytes : List ℕ) → AllDigits 10 bytes → IsByteFree 0 bytes
digits_are_zero_byte_free [] digits = All-nil (λ it. it ≢ 0)
digits_are_zero_byte_free (byte ∷ bytes) digits = All-cons (λ it. it ≢ 0) byte bytes (decimal_digit_ne_zero byte digits.0)
    (digits_are_zero_byte_free bytes digits.1)

sign_byte_ne_zero : (byte sign : ℕ) → 0 < sign → (byte == sign) ≡ true → byte ≢ 0
sign_byte_ne_zero byte sign some passes zero = omega (arith, eqb-true byte sign passes)

-- a size with a minus, a plus or no sign has no zero byte
signed_digits_are_zero_byte_free : (byte : ℕ) (bytes : List ℕ) (is_minus is_plus : Bool) → (byte == 45) ≡ is_minus → (byte == 43) ≡ is_plus
    → AllDigits 10 (cond is_minus bytes (drop (cond is_plus 1 0) (byte ∷ bytes))) → IsByteFree 0 (byte ∷ bytes)
signed_digits_are_zero_byte_free byte bytes true is_plus minus plus digits =
    All-cons (λ it. it ≢ 0) byte bytes (sign_byte_ne_zero byte 45 (lit< tt) minus) (digits_are_zero_byte_free bytes digits)
signed_digits_are_zero_byte_free byte bytes false true minus plus digits =
    All-cons (λ it. it ≢ 0) byte bytes (sign_byte_ne_zero byte 43 (lit< tt) plus) (digits_are_zero_byte_free bytes digits)
signed_digits_are_zero_byte_free byte bytes false false minus plus digits = digits_are_zero_byte_free (byte ∷ bytes) digits

pub size_bytes_zero_free : (bytes : List ℕ) (size : ℕ) → DecodesToSize bytes size → IsByteFree 0 bytes
size_bytes_zero_free [] size reads = All-nil (λ it. it ≢ 0)
size_bytes_zero_free (byte ∷ bytes) size reads = signed_digits_are_zero_byte_free byte bytes (byte == 45) (byte == 43) refl refl reads.digits.1

eqb_false_of_ne : (a b : ℕ) → a ≢ b → (a == b) ≡ false
eqb_false_of_ne a b other = elim (eqb_tells a b) [ inl same ↦ absurd (other same.1) | inr not_same ↦ not_same.0 ]

-- decimal digits have no sign
pub digits_without_minus : (digits : List ℕ) → IsNumeral 10 digits → (starts_with_minus digits ≡ false) × (size_digits digits ≡ digits)
digits_without_minus digits numeral =
    let range = digit_at digits 0 numeral.1 numeral.0 in
    let no_minus : starts_with_minus digits ≡ false = eqb_false_of_ne (slice_index digits 0) 45 (omega arith) in
    let no_plus : (slice_index digits 0 == 43) ≡ false = eqb_false_of_ne (slice_index digits 0) 43 (omega arith) in
    (no_minus, rw (no_minus, no_plus) refl)

pub decimal_decodes_to_size : (size : ℕ) → size < 2 ^ 64 → DecodesToSize (decimal size) size
decimal_decodes_to_size size fits =
    let written = decimal_is_IsNumeral size fits in
    let unsigned = digits_without_minus (decimal size) written.0 in
    record {
      digits = rw unsigned.1 written.0;
      value = rw unsigned.1 (sym written.1);
      fits = fits;
      minus = λ minus. absurd (true≢false (sym minus ∙ unsigned.0));
    }
