-- Splits of a byte string at a byte, and trimmed byte strings.
use Rattle.std.specs.Prelude.{◌++◌, ◌∷◌, ◌≡◌, ◌≢◌, All, Bool, List, [], false, true, ℕ}
use Rattle.std.specs.Char.{is_whitespace}
use Rattle.bstr.specs.Trim.{trim_end_by, trim_start_by}

-- the byte does not occur in the content
abbrev pub IsByteFree : ℕ → List ℕ → Type 0
IsByteFree byte content = All (λ it. it ≢ byte) content

-- the content is the prefix, the first occurrence of the byte, and the rest
pub record SplitsAt (byte : ℕ) (content prefix rest : List ℕ) : Type 0 where
  pub joined : content ≡ prefix ++ byte ∷ rest
  pub first : IsByteFree byte prefix

-- the content is the prefix, the last occurrence of the byte, and the rest
pub record SplitsAtLast (byte : ℕ) (content prefix rest : List ℕ) : Type 0 where
  pub joined : content ≡ prefix ++ byte ∷ rest
  pub last : IsByteFree byte rest

-- the content without white space at either end, which is Unicode white space
abbrev pub trimmed : List ℕ → List ℕ
trimmed content = trim_end_by is_whitespace (trim_start_by is_whitespace content)

-- the content has at least one byte
abbrev pub is_filled : List ℕ → Bool
is_filled [] = false
is_filled (byte ∷ rest) = true
