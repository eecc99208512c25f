-- The times of actor lines: seconds and an offset (git-fast-import, "Date Formats", "raw").
use Rattle.std.specs.Prelude.{◌≡◌, ◌≤◌, ◌<◌, ◌+◌, ◌*◌, ◌/◌, ◌%◌, ℕ, ℤ, Bool, List, [], ◌∷◌, ◌++◌, pos, negsuc, true}
use Rattle.std.specs.Prelude.{false, drop, unsigned_abs, neg_ℤ, if◌then◌else◌, FitsSigned}
use Rattle.std.specs.Fmt.{signed_decimal}
use Rattle.std.specs.Int.{w64}
use Rattle.std.specs.Str.Parse.{IsNumeral, digits_value, starts_with_minus}
use Rattle.gixobj_hash.specs.Bytes.{digit, minus, plus, space}

-- an offset: a multiple of 60 seconds, at most 99 hours and 59 minutes in either direction
abbrev pub IsOffset : ℤ → Type 0
IsOffset offset = (unsigned_abs offset % 60 ≡ 0) × (unsigned_abs offset ≤ 359940)

-- the number of this absolute value, negative after a minus
abbrev pub signed : Bool → ℕ → ℤ
signed is_minus size = if is_minus then neg_ℤ (pos size) else pos size

-- the bytes of seconds after their minus, or all of them without a minus
abbrev pub seconds_digits : List ℕ → List ℕ
seconds_digits bytes = drop (if starts_with_minus bytes then 1 else 0) bytes

-- the number of these seconds, in decimal
abbrev pub seconds_value : List ℕ → ℤ
seconds_value bytes = signed (starts_with_minus bytes) (digits_value 10 (seconds_digits bytes))

-- the bytes decode to these seconds: at most a minus, and then digits. The number fits 64 bits, signed
pub record DecodesToSeconds (bytes : List ℕ) (seconds : ℤ) : Type 0 where
  pub digits : IsNumeral 10 (seconds_digits bytes)
  pub value : seconds ≡ seconds_value bytes
  pub fits : FitsSigned w64 seconds

-- the two ASCII digits of a number below a hundred
abbrev pub two_digits : ℕ → List ℕ
two_digits number = digit (number / 10) ∷ digit (number % 10) ∷ []

-- a plus or a minus, two digits of hours, two digits of minutes
abbrev pub encode_offset_parts : Bool → ℕ → ℕ → List ℕ
encode_offset_parts is_minus hours minutes = (if is_minus then minus else plus) ∷ two_digits hours ++ two_digits minutes

-- the bytes decode to this offset: at most 99 hours, at most 59 minutes
pub record DecodesToOffset (bytes : List ℕ) (offset : ℤ) : Type 0 where
  pub is_minus : Bool
  pub hours : ℕ
  pub minutes : ℕ
  pub encoded : bytes ≡ encode_offset_parts is_minus hours minutes
  pub hours_fit : hours < 100
  pub minutes_fit : minutes < 60
  pub value : offset ≡ signed is_minus (60 * (60 * hours + minutes))

-- the bytes decode to a time: seconds, one space, an offset
pub record DecodesToTime (bytes : List ℕ) (seconds offset : ℤ) : Type 0 where
  pub first : List ℕ
  pub second : List ℕ
  pub joined : bytes ≡ first ++ space ∷ second
  pub seconds_bytes : DecodesToSeconds first seconds
  pub offset_bytes : DecodesToOffset second offset

-- the bytes decode to no time
abbrev pub IsMalformedTime : List ℕ → Type 0
IsMalformedTime bytes = (seconds offset : ℤ) → ¬ DecodesToTime bytes seconds offset

-- the number is negative
abbrev pub is_below_zero : ℤ → Bool
is_below_zero (pos size) = false
is_below_zero (negsuc size) = true

-- the encoding of an offset, with `+` for 0
abbrev pub encode_offset : ℤ → List ℕ
encode_offset offset = encode_offset_parts (is_below_zero offset) (unsigned_abs offset / 60 / 60)
    (unsigned_abs offset / 60 % 60)

-- the encoding of a time: the seconds in decimal, a space, and the offset
abbrev pub encode_time : ℤ → ℤ → List ℕ
encode_time seconds offset = signed_decimal seconds ++ space ∷ encode_offset offset
