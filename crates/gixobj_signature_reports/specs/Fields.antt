-- The bytes after a prefix of a status line, and the fields that single spaces separate.
use Rattle.std.specs.Prelude.{ℕ, List, [], ◌∷◌, Option, Some, None, if◌then◌else◌, drop, length, nat_eq, slice_get}
use Rattle.std.specs.Prelude.{◌==◌}
use Rattle.std.specs.List.{starts_with}
use Rattle.gixobj_hash.specs.Bytes.{space}

-- the bytes after this prefix, or none without this prefix
abbrev pub after_prefix : List ℕ → List ℕ → Option (List ℕ)
after_prefix beginning line =
    if starts_with nat_eq line beginning then Some (drop (length beginning) line) else None

-- the first option, or the second if the first is none
abbrev pub either : {X : Type 0} → Option X → Option X → Option X
either (Some x) other = Some x
either None other = other

-- the bytes, or none if they are empty
abbrev pub unless_empty : List ℕ → Option (List ℕ)
unless_empty [] = None
unless_empty (byte ∷ rest) = Some (byte ∷ rest)

-- the bytes before the first space, or all without one
abbrev pub first_token : List ℕ → List ℕ
first_token [] = []
first_token (byte ∷ rest) = if byte == space then [] else byte ∷ first_token rest

-- the bytes after the first space, or nothing without one
abbrev pub after_space : List ℕ → List ℕ
after_space [] = []
after_space (byte ∷ rest) = if byte == space then rest else after_space rest

-- the fields with one more byte at the start of the first
abbrev pub one_more_byte : ℕ → List (List ℕ) → List (List ℕ)
one_more_byte byte [] = (byte ∷ []) ∷ []
one_more_byte byte (field ∷ fields) = (byte ∷ field) ∷ fields

-- the fields that single spaces separate
abbrev pub fields_of : List ℕ → List (List ℕ)
fields_of [] = [] ∷ []
fields_of (byte ∷ rest) = if byte == space then [] ∷ fields_of rest else one_more_byte byte (fields_of rest)

-- the field, or none if it is missing or empty
abbrev pub if_not_empty : Option (List ℕ) → Option (List ℕ)
if_not_empty (Some bytes) = unless_empty bytes
if_not_empty None = None

-- the field with this number, counted from 0, or none if it is missing or empty
abbrev pub field_at : ℕ → List (List ℕ) → Option (List ℕ)
field_at number fields = if_not_empty (slice_get fields number)

-- the last item of a list, or none of an empty list
abbrev pub last_of : {X : Type 0} → List X → Option X
last_of [] = None
last_of (x ∷ []) = Some x
last_of (x ∷ next ∷ more) = last_of (next ∷ more)
