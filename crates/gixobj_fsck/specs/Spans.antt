-- The longest prefix of a input whose bytes pass a test.
use Rattle.std.specs.Prelude.{◌≡◌, ◌||◌, ◌&&◌, ◌==◌, ◌++◌, ◌∷◌, [], ℕ, Bool, IsTrue, List, nat_le, not, true, ⊤}
use Rattle.std.specs.List.{list_all}
use Rattle.gixobj_hash.specs.Bytes.{greater_than, less_than, newline, space}
use Rattle.gixobj_fsck.specs.declared.spans.Class.{Class}
use Rattle.gixobj_fsck.specs.declared.spans.Class.TheVariants as class

-- a byte of this class: of a name or an email, white space in C's sense, or a decimal digit
abbrev pub is_of_class : Class → ℕ → Bool
is_of_class class.Name byte = not (byte == less_than || byte == greater_than || byte == newline)
is_of_class class.White byte = byte == space || (nat_le 9 byte && nat_le byte 13)
is_of_class class.Digit byte = nat_le 48 byte && nat_le byte 57

-- the input is empty, or its first byte isn't of this class
abbrev pub EndsSpan : Class → List ℕ → Type 0
EndsSpan class [] = ⊤
EndsSpan class (byte ∷ rest) = ¬ IsTrue (is_of_class class byte)

-- the input is the longest prefix of bytes of this class, and the rest
pub record IsSpan (class : Class) (input prefix rest : List ℕ) : Type 0 where
  pub joined : input ≡ prefix ++ rest
  pub within : list_all (is_of_class class) prefix ≡ true
  pub ends : EndsSpan class rest
