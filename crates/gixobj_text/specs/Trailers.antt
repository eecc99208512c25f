-- Trailers and their unfolded values (git-interpret-trailers).
use Rattle.std.specs.Prelude.{ℕ, List, [], ◌∷◌, Option, Some, None, filter, map}
use Rattle.std.specs.List.{take_while}
use Rattle.bstr.specs.Owned.{joined}
use Rattle.bstr.specs.Text.{lines_of}
use Rattle.gixobj_hash.specs.Bytes.{space}
use Rattle.gixobj_text.specs.BodyLines.{TrailerParts, is_continuation_line, parts_of_line, trimmed_line}
use Rattle.gixobj_hash.specs.ByteStrings.{is_filled, trimmed}

-- a trailer as contracts see it
pub record TrailerView : Type 0 where
  pub token : List ℕ
  pub value : List ℕ

-- the value of one line, trimmed; or of several lines, each trimmed, without empty ones, joined by spaces
abbrev pub unfolded : List ℕ → List (List ℕ) → List ℕ
unfolded first [] = trimmed first
unfolded first (second ∷ more) = joined (space ∷ []) (filter is_filled (map trimmed (first ∷ second ∷ more)))

-- a trailer line adds its trailer, with the continuation lines that follow it
abbrev pub with_trailer : Option TrailerParts → List (List ℕ) → List TrailerView → List TrailerView
with_trailer None following trailers = trailers
with_trailer (Some parts) following trailers =
    (record { token = parts.0; value = unfolded parts.1 (map trimmed_line following) }) ∷ trailers

-- the trailers of lines: continuation lines add none themselves, and other lines are skipped
abbrev pub trailers_of : List (List ℕ) → List TrailerView
trailers_of [] = []
trailers_of (line ∷ lines) = with_trailer (parts_of_line line) (take_while is_continuation_line lines)
    (trailers_of lines)

-- the trailers of bytes
abbrev pub trailers_of_bytes : List ℕ → List TrailerView
trailers_of_bytes bytes = trailers_of (lines_of bytes)
