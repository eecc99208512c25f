-- The unfolding of a value, line by line.
use Rattle.std.specs.Prelude.{◌≡◌, ◌<◌, ◌++◌, ℕ, Bool, true, false, if◌then◌else◌, Some, List, [], ◌∷◌, length, map}
use Rattle.std.specs.List.{take_while}
use Rattle.bstr.specs.Text.{lines_of}
use Rattle.gixobj_hash.specs.Bytes.{space}
use Rattle.gixobj_text.specs.FirstLines.{HasLastLines}
use Rattle.gixobj_text.specs.BodyLines.{is_continuation_line, is_trailer_line, trimmed_line}
use Rattle.gixobj_text.specs.Trailers.{trailers_of_bytes, with_trailer}
use Rattle.gixobj_hash.specs.ByteStrings.{is_filled, trimmed}

-- the items with a piece appended, unless it is empty; a space separates two pieces
abbrev pub with_piece : List ℕ → List ℕ → List ℕ
with_piece items piece =
    if is_filled piece then (if is_filled items then items ++ space ∷ piece else piece) else items

-- the items with all pieces appended
abbrev pub with_pieces : List ℕ → List (List ℕ) → List ℕ
with_pieces items [] = items
with_pieces items (piece ∷ pieces) = with_pieces (with_piece items piece) pieces

-- the continuation lines at the start of bytes
abbrev pub continuation_lines : List ℕ → List (List ℕ)
continuation_lines bytes = take_while is_continuation_line (lines_of bytes)

-- the items with the pieces of the continuation lines at the start appended
abbrev pub with_folded : List ℕ → List (List ℕ) → List ℕ
with_folded items lines = with_pieces items (map trimmed (map trimmed_line (take_while is_continuation_line lines)))

-- there is a line
abbrev pub has_lines : List (List ℕ) → Bool
has_lines [] = false
has_lines (line ∷ lines) = true

-- the first trailer has continuation lines
abbrev pub first_is_folded : List (List ℕ) → Bool
first_is_folded [] = false
first_is_folded (line ∷ lines) =
    if is_trailer_line line then has_lines (take_while is_continuation_line lines) else first_is_folded lines

-- the token of the next trailer line, the bytes after its colon, and the lines after it
pub record IsNextTrailer (bytes token first rest : List ℕ) : Type 0 where
  pub trailers : trailers_of_bytes bytes ≡ with_trailer (Some (token, first))
      (take_while is_continuation_line (lines_of rest)) (trailers_of_bytes rest)
  pub folded : first_is_folded (lines_of bytes) ≡ has_lines (take_while is_continuation_line (lines_of rest))
  pub shorter : length rest < length bytes
  pub last_lines : HasLastLines bytes rest
