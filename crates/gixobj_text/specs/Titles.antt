-- The title, the body and the summary of a message.
use Rattle.std.specs.Prelude.{◌≡◌, ◌≢◌, ◌⊎◌, ◌≤◌, ◌==◌, ℕ, if◌then◌else◌, List, [], ◌∷◌, ◌++◌, Option, Some, None, drop}
use Rattle.std.specs.Prelude.{length, map, reverse}
use Rattle.std.specs.Char.{is_ascii_whitespace, is_whitespace}
use Rattle.std.specs.List.{list_all, prefix_len, slice_split, take_while}
use Rattle.bstr.specs.Owned.{joined}
use Rattle.gixobj_hash.specs.Bytes.{carriage_return, newline, space}
use Rattle.gixobj_hash.specs.ByteStrings.{is_filled, trimmed}
use Rattle.bstr.specs.Trim.{trim_end_by}

-- ---- title and body

-- a line break: a newline, or a carriage return and a newline
pub data IsBreak : List ℕ → Type 0 where
  alone : IsBreak (newline ∷ [])
  after_return : IsBreak (carriage_return ∷ newline ∷ [])

-- two consecutive line breaks follow this prefix, and then the rest
pub record HasBreaks (message prefix rest : List ℕ) : Type 0 where
  pub first : List ℕ
  pub second : List ℕ
  pub breaks : IsBreak first × IsBreak second
  pub joined : message ≡ prefix ++ first ++ second ++ rest

-- the title ends at the first position of two consecutive line breaks, and the body follows them
pub record IsSplitAtBreaks (message title body : List ℕ) : Type 0 where
  pub here : HasBreaks message title body
  pub minimum : (prefix rest : List ℕ) → HasBreaks message prefix rest → length title ≤ length prefix

-- a message splits at its first two consecutive line breaks; without them it is all title; an empty body is none
abbrev pub SplitsTitle : List ℕ → List ℕ → Option (List ℕ) → Type 0
SplitsTitle message title None = IsSplitAtBreaks message title []
    ⊎ ((title ≡ message) × ((prefix rest : List ℕ) → ¬ HasBreaks message prefix rest))
SplitsTitle message title (Some body) = IsSplitAtBreaks message title body × (body ≢ [])

-- ---- summaries

-- the pieces between newlines
abbrev pub pieces_of : List ℕ → List (List ℕ)
pieces_of bytes = slice_split (λ byte. byte == newline) bytes

-- a piece without the ASCII white space at its end
abbrev pub without_trailing : List ℕ → List ℕ
without_trailing piece = reverse (drop (prefix_len is_ascii_whitespace (reverse piece)) (reverse piece))

-- each piece without the ASCII white space at its end; the last piece of all is unchanged
abbrev pub without_trailing_but_last : List (List ℕ) → List (List ℕ)
without_trailing_but_last [] = []
without_trailing_but_last (piece ∷ []) = piece ∷ []
without_trailing_but_last (piece ∷ next ∷ pieces) = without_trailing piece ∷ without_trailing_but_last (next ∷ pieces)

-- `without_trailing_but_last` of the pieces, joined by spaces; or, if a piece after the first is empty, the pieces
-- before it, joined by spaces and trimmed at the end
abbrev pub summary_of_pieces : List (List ℕ) → List ℕ
summary_of_pieces [] = []
summary_of_pieces (first ∷ pieces) =
    if list_all is_filled pieces then joined (space ∷ []) (without_trailing_but_last (first ∷ pieces))
    else trim_end_by is_whitespace (joined (space ∷ []) (map without_trailing (first ∷ take_while is_filled pieces)))

-- the summary of the trimmed bytes
abbrev pub summary_of : List ℕ → List ℕ
summary_of bytes = summary_of_pieces (pieces_of (trimmed bytes))
