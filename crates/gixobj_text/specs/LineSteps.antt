-- Steps over lines to the first trailer line, and over consecutive trailers.
use Rattle.std.specs.Prelude.{◌≡◌, ◌||◌, ℕ, List, [], ◌∷◌, ◌++◌, All, IsFalse, IsTrue, ⊤}
use Rattle.std.specs.List.{concat}
use Rattle.bstr.specs.Text.{lines_of}
use Rattle.gixobj_text.specs.MessageBlocks.{EndsTrailers}
use Rattle.gixobj_text.specs.BodyLines.{is_continuation_line, is_trailer_line}

-- the bytes are lines that all satisfy `P`, and then `rest` with its own lines
pub record HasConsumedAll (P : List ℕ → Type 0) (bytes rest : List ℕ) : Type 0 where
  pub consumed : List (List ℕ)
  pub joined : bytes ≡ concat consumed ++ rest
  pub lines : lines_of bytes ≡ consumed ++ lines_of rest
  pub all : All P consumed

-- the line isn't a trailer line
abbrev pub NoTrailer : List ℕ → Type 0
NoTrailer line = IsFalse (is_trailer_line line)

-- a trailer line or a continuation line
abbrev pub ContinuesTrailer : List ℕ → Type 0
ContinuesTrailer line = IsTrue (is_trailer_line line || is_continuation_line line)

-- there is no line, or the first is a trailer line
abbrev pub BeginsTrailer : List (List ℕ) → Type 0
BeginsTrailer [] = ⊤
BeginsTrailer (line ∷ lines) = IsTrue (is_trailer_line line)

-- the rest from the first trailer line on
pub record IsAtTrailer (bytes rest : List ℕ) : Type 0 where
  pub consumes : HasConsumedAll NoTrailer bytes rest
  pub begins : BeginsTrailer (lines_of rest)

-- the rest after consecutive trailers
pub record IsAfterTrailers (bytes rest : List ℕ) : Type 0 where
  pub consumes : HasConsumedAll ContinuesTrailer bytes rest
  pub ends : EndsTrailers (lines_of rest)
