-- The date and the time zone of an actor (git-fsck, "FSCK MESSAGES"). The input is all that follows the email, up to
-- the end of the object: a date may begin in a later line.
use Rattle.std.specs.Prelude.{◌≡◌, ◌≢◌, ◌⊎◌, ◌∷◌, ◌-◌, ◌^◌, ◌%◌, ◌<◌, ◌≤◌, ◌==◌, ◌||◌, [], ℕ, Bool, IsTrue, List}
use Rattle.std.specs.Prelude.{Result, Ok, Err, false, if◌then◌else◌, nat_lt}
use Rattle.std.specs.Str.Parse.{digits_value}
use Rattle.gixobj_hash.specs.Bytes.{digit, minus, newline, plus, space}
use Rattle.gixobj_fsck.specs.Spans.{IsSpan, is_of_class}
use Rattle.gixobj_fsck.specs.declared.spans.Class.TheVariants as class
use Rattle.gixobj_fsck_messages.specs.declared.message.Message.{Message}
use Rattle.gixobj_fsck_messages.specs.declared.message.Message.TheVariants as message

-- the input begins with this byte
abbrev pub BeginsWithByte : ℕ → List ℕ → Type 0
BeginsWithByte byte input = (rest : List ℕ) × (input ≡ byte ∷ rest)

-- ---- the number

-- the input begins with a minus
abbrev pub is_negative : List ℕ → Bool
is_negative [] = false
is_negative (byte ∷ rest) = byte == minus

-- the input without a plus or a minus at its beginning
abbrev pub without_sign : List ℕ → List ℕ
without_sign [] = []
without_sign (byte ∷ rest) = if byte == plus || byte == minus then rest else byte ∷ rest

-- a number of 64 bits: the largest one in place of a larger one, and modulo 2 ^ 64 after a minus
abbrev pub number_of : Bool → ℕ → ℕ
number_of negative value = if nat_lt value (2 ^ 64) then (if negative then (2 ^ 64 - value) % 2 ^ 64 else value)
    else (2 ^ 64 - 1)

-- the date begins with this number, as C's `strtoumax` takes it: white space, a sign and digits; the rest follows
pub record BeginsWithNumber (date : List ℕ) (number : ℕ) (rest : List ℕ) : Type 0 where
  pub white : List ℕ
  pub signed : List ℕ
  pub digits : List ℕ
  pub skipped : IsSpan class.White date white signed
  pub counted : IsSpan class.Digit (without_sign signed) digits rest
  pub some : digits ≢ []
  pub value : number ≡ number_of (is_negative signed) (digits_value 10 digits)

-- the date begins with no number
abbrev pub BeginsWithNoNumber : List ℕ → Type 0
BeginsWithNoNumber date = (number : ℕ) (rest : List ℕ) → ¬ BeginsWithNumber date number rest

-- ---- the date and the zone

-- the date begins with a zero that no space follows
abbrev pub IsZeroPadded : List ℕ → Type 0
IsZeroPadded date = (rest : List ℕ) × (date ≡ digit 0 ∷ rest) × (¬ BeginsWithByte space rest)

-- a sign, four digits and a newline, and the rest follows
pub record BeginsWithZone (input rest : List ℕ) : Type 0 where
  pub sign : ℕ
  pub first : ℕ
  pub second : ℕ
  pub third : ℕ
  pub fourth : ℕ
  pub joined : input ≡ sign ∷ first ∷ second ∷ third ∷ fourth ∷ newline ∷ rest
  pub signed : IsTrue (sign == plus || sign == minus)
  pub one : IsTrue (is_of_class class.Digit first)
  pub two : IsTrue (is_of_class class.Digit second)
  pub three : IsTrue (is_of_class class.Digit third)
  pub four : IsTrue (is_of_class class.Digit fourth)

-- a space and a date that a zero does not pad come, or there is a fault
abbrev pub DateStart : List ℕ → Result (List ℕ) Message → Type 0
DateStart input (Ok date) = (input ≡ space ∷ date) × (¬ IsZeroPadded date)
DateStart input (Err fault) = ((¬ BeginsWithByte space input) × (fault ≡ message.MissingSpaceBeforeDate))
    ⊎ ((date : List ℕ) × (input ≡ space ∷ date) × IsZeroPadded date × (fault ≡ message.ZeroPaddedDate))

-- a number below 2 ^ 63 and a space come, or there is a fault
abbrev pub DateNumber : List ℕ → Result (List ℕ) Message → Type 0
DateNumber date (Ok zone) = (number : ℕ) × BeginsWithNumber date number (space ∷ zone) × (number < 2 ^ 63)
DateNumber date (Err fault) =
    ((number : ℕ) × (rest : List ℕ) × BeginsWithNumber date number rest × (2 ^ 63 ≤ number)
    × (fault ≡ message.BadDateOverflow))
    ⊎ (BeginsWithNoNumber date × (fault ≡ message.BadDate))
    ⊎ ((number : ℕ) × (rest : List ℕ) × BeginsWithNumber date number rest × (number < 2 ^ 63)
    × (¬ BeginsWithByte space rest) × (fault ≡ message.BadDate))

-- a time zone comes, or there is a fault
abbrev pub ZonePart : List ℕ → Result (List ℕ) Message → Type 0
ZonePart input (Ok rest) = BeginsWithZone input rest
ZonePart input (Err fault) = ((rest : List ℕ) → ¬ BeginsWithZone input rest) × (fault ≡ message.BadTimezone)
