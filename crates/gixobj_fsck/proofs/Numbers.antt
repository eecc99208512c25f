-- Numbers at the beginning of dates.
use Rattle.std.proofs.Common.{◌≡◌, ◌<◌, ℕ, true, List, [], ◌∷◌, length, sym, subst, arith}
use Rattle.std.specs.Char.{digit_value}
use Rattle.std.specs.List.{list_all}
use Rattle.std.specs.Str.Parse.{AllDigits, IsNumeral}
use Rattle.std.proofs.lemmas.Bool.{and_parts}
use Rattle.std.proofs.lemmas.Bool.Decides.{nat_tests}
use Rattle.gixobj_fsck.specs.Dates.{BeginsWithNoNumber, without_sign}
use Rattle.gixobj_fsck.specs.Spans.{IsSpan, is_of_class}
use Rattle.gixobj_fsck.specs.declared.spans.Class.TheVariants as class
use Rattle.gixobj_fsck.proofs.SpanParts.{span_unique}

digit_of_class : (byte : ℕ) → is_of_class class.Digit byte ≡ true → digit_value byte < 10
digit_of_class byte is = grind (arith, nat_tests)

all_digits_of_class : (bytes : List ℕ) → list_all (is_of_class class.Digit) bytes ≡ true → AllDigits 10 bytes
all_digits_of_class [] all = tt
all_digits_of_class (byte ∷ bytes) all =
    let parts = and_parts (is_of_class class.Digit byte) (list_all (is_of_class class.Digit) bytes) all in
    (digit_of_class byte parts.0, all_digits_of_class bytes parts.1)

-- a span of digits that isn't empty is a numeral
pub numeral_of_span : (input digits rest : List ℕ) → IsSpan class.Digit input digits rest → 0 < length digits → IsNumeral 10 digits
numeral_of_span input digits rest span some = (some, all_digits_of_class digits span.within)

-- without digits there is no number
no_number_of_no_digits : (date white signed rest : List ℕ) → IsSpan class.White date white signed
    → IsSpan class.Digit (without_sign signed) [] rest → BeginsWithNoNumber date
no_number_of_no_digits date white signed rest skipped counted number after has =
    let start = (span_unique class.White date white signed has.white has.signed skipped has.skipped).1 in
    let also = subst (λ (it : List ℕ). IsSpan class.Digit (without_sign it) [] rest) start counted in
    has.some (sym (span_unique class.Digit (without_sign has.signed) [] rest has.digits after also has.counted).0)

-- if there are 0 digits there is no number
pub no_number_of_empty : (date white signed unsigned digits rest : List ℕ) → IsSpan class.White date white signed → unsigned ≡ without_sign signed
    → IsSpan class.Digit unsigned digits rest → length digits ≡ 0 → BeginsWithNoNumber date
no_number_of_empty date white signed unsigned [] rest skipped same counted none =
    no_number_of_no_digits date white signed rest skipped (subst (λ (it : List ℕ). IsSpan class.Digit it [] rest) same counted)
no_number_of_empty date white signed unsigned (digit ∷ digits) rest skipped same counted none = absurd (omega (arith, none))
