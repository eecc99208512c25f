-- The seconds of a committer line, by which walks order commits (git-rev-list, "Commit Ordering"; git-commit-tree,
-- "Commit Information").
use Rattle.std.specs.Prelude.{◌≡◌, ◌-◌, ◌^◌, ◌%◌, ◌⊎◌, ◌||◌, ◌&&◌, ◌==◌, nat_le, nat_lt, ℕ, Bool, List, [], ◌∷◌, ◌++◌}
use Rattle.std.specs.Prelude.{IsFalse, if◌then◌else◌, ⊤}
use Rattle.std.specs.Char.{is_ascii_digit}
use Rattle.std.specs.List.{AllPass}
use Rattle.std.specs.Str.Parse.{IsNumeral, digits_value, starts_with_minus, without_leading_sign}
use Rattle.gixobj_hash.specs.ByteStrings.{IsByteFree}
use Rattle.gixobj_hash.specs.Bytes.{carriage_return, greater_than, space, tab}

-- a white-space byte as C has it: a space, or one from tab to carriage return
abbrev pub is_white_space : ℕ → Bool
is_white_space byte = byte == space || (nat_le tab byte && nat_le byte carriage_return)

-- the bytes do not begin with a byte that passes the test
abbrev pub EndsRun : (ℕ → Bool) → List ℕ → Type 0
EndsRun test [] = ⊤
EndsRun test (byte ∷ rest) = IsFalse (test byte)

-- the line has this number after its first `>` and white space: at most one sign and then digits, as many as there are
pub record HasNumber (line number : List ℕ) : Type 0 where
  pub before : List ℕ
  pub gap : List ℕ
  pub rest : List ℕ
  pub joined : line ≡ before ++ greater_than ∷ gap ++ number ++ rest
  pub first : IsByteFree greater_than before
  pub blank : AllPass is_white_space gap
  pub digits : IsNumeral 10 (without_leading_sign number)
  pub ends : EndsRun is_ascii_digit rest

-- the line has no number after its first `>`, or no `>`
abbrev pub HasNoNumber : List ℕ → Type 0
HasNoNumber line = (number : List ℕ) → ¬ HasNumber line number

-- a number in 64 bits: after a minus it counts back from 2^64, and a number that is too large becomes the largest one
abbrev pub in_64_bits : Bool → ℕ → ℕ
in_64_bits is_minus size =
    if nat_lt size (2 ^ 64) then (if is_minus then (2 ^ 64 - size) % 2 ^ 64 else size) else 2 ^ 64 - 1

-- the value of a number in 64 bits
abbrev pub number_value : List ℕ → ℕ
number_value number = in_64_bits (starts_with_minus number) (digits_value 10 (without_leading_sign number))

-- the seconds of the line: the value of its number, or 0 if it has none
abbrev pub HasSeconds : List ℕ → ℕ → Type 0
HasSeconds line seconds = ((number : List ℕ) × HasNumber line number × (seconds ≡ number_value number))
    ⊎ (HasNoNumber line × (seconds ≡ 0))
