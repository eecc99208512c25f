-- A summary, piece by piece.
use Rattle.std.specs.Prelude.{ℕ, Bool, true, false, if◌then◌else◌, List, [], ◌∷◌, ◌++◌}
use Rattle.std.specs.Char.{is_whitespace}
use Rattle.bstr.specs.Trim.{trim_end_by}
use Rattle.gixobj_hash.specs.Bytes.{space}
use Rattle.gixobj_text.specs.Titles.{pieces_of, without_trailing}
use Rattle.gixobj_hash.specs.ByteStrings.{is_filled, trimmed}

-- a summary that has begun, with the remaining pieces: an empty piece ends it, and the last piece keeps its trailing
-- white space
abbrev pub summary_of_rest : List ℕ → List (List ℕ) → List ℕ
summary_of_rest summary [] = summary
summary_of_rest summary (piece ∷ []) =
    if is_filled piece then summary ++ space ∷ piece else trim_end_by is_whitespace summary
summary_of_rest summary (piece ∷ next ∷ pieces) =
    if is_filled piece then summary_of_rest (summary ++ space ∷ without_trailing piece) (next ∷ pieces)
    else trim_end_by is_whitespace summary

-- there is more than one piece
abbrev pub has_more : List (List ℕ) → Bool
has_more [] = false
has_more (piece ∷ []) = false
has_more (piece ∷ next ∷ pieces) = true

-- the trimmed bytes have more than one line
abbrev pub is_multiline : List ℕ → Bool
is_multiline bytes = has_more (pieces_of (trimmed bytes))
