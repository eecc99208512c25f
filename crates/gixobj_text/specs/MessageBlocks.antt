-- The messages of a body, each with the trailers that follow it.
use Rattle.std.specs.Prelude.{◌≡◌, ◌≢◌, ◌||◌, ℕ, List, [], ◌∷◌, ◌++◌, All, IsFalse, IsTrue, drop, take, ⊤}
use Rattle.std.specs.List.{concat}
use Rattle.bstr.specs.Text.{lines_of}
use Rattle.gixobj_text.specs.BodyLines.{is_continuation_line, is_trailer_line}

-- a message, and the bytes of its trailers
pub record BlockView : Type 0 where
  pub message : List ℕ
  pub trailers : List ℕ

-- consecutive trailers: no line; or a trailer line, and then trailer lines and continuation lines
abbrev pub AreTrailers : List (List ℕ) → Type 0
AreTrailers [] = ⊤
AreTrailers (line ∷ lines) = IsTrue (is_trailer_line line)
    × All (λ it. IsTrue (is_trailer_line it || is_continuation_line it)) lines

-- trailers end before these lines: there is none, or the first is neither a trailer line nor a continuation line
abbrev pub EndsTrailers : List (List ℕ) → Type 0
EndsTrailers [] = ⊤
EndsTrailers (line ∷ lines) = IsFalse (is_trailer_line line || is_continuation_line line)

-- the lines of a block: those before the first trailer line, then consecutive trailers, then the rest; without trailers
-- the block has all lines
pub record IsBlockOfLines (lines skipped consumed rest : List (List ℕ)) : Type 0 where
  pub split : lines ≡ skipped ++ consumed ++ rest
  pub message : All (λ line. IsFalse (is_trailer_line line)) skipped
  pub trailers : AreTrailers consumed
  pub none : consumed ≡ [] → rest ≡ []
  pub ends : EndsTrailers rest

-- the first block of `content`: its message has the first `start` bytes, whatever they are, and the lines before the
-- next trailer line; `rest` follows its trailers
pub record IsFirstMessageBlock (start : ℕ) (content : List ℕ) (block : BlockView) (rest : List ℕ) : Type 0 where
  pub some : content ≢ []
  pub skipped : List (List ℕ)
  pub consumed : List (List ℕ)
  pub lines : IsBlockOfLines (lines_of (drop start content)) skipped consumed (lines_of rest)
  pub message : block.message ≡ take start content ++ concat skipped
  pub trailers : block.trailers ≡ concat consumed

-- the blocks of `content`, in order; the first message has at least `start` bytes
pub data AreBlocksFrom : ℕ → List ℕ → List BlockView → Type 0 where
  none : (start : ℕ) → AreBlocksFrom start [] []
  block : (start : ℕ) (content : List ℕ) (one : BlockView) (rest : List ℕ) (later : List BlockView)
      → IsFirstMessageBlock start content one rest → AreBlocksFrom 0 rest later
      → AreBlocksFrom start content (one ∷ later)

-- the messages and their trailers, appended in order
abbrev pub joined_parts : List BlockView → List ℕ
joined_parts [] = []
joined_parts (one ∷ blocks) = one.message ++ (one.trailers ++ joined_parts blocks)
