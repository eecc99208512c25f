-- Sign-offs of a commit, and its last trailer.
use Rattle.std.specs.Prelude.{◌≡◌, ◌++◌, ◌∷◌, ℕ, List, None, Option, codes, filter, true}
use Rattle.std.specs.List.{last_or}
use Rattle.bstr.specs.Text.{lines_of}
use Rattle.gix_object.specs.BodyLines.{is_continuation_line}
use Rattle.gix_object.specs.MessageTrailers.{HasTrailerBlock, HasTrailers}
use Rattle.gix_object.specs.TrailerNames.{is_named}
use Rattle.gix_object.specs.Trailers.{TrailerView}

-- the trailers of a message that sign it off, in order
abbrev pub AreSignOffs : List ℕ → List TrailerView → Type 0
AreSignOffs message signers =
    (all : List TrailerView) × HasTrailers message all
    × (signers ≡ filter (λ trailer. is_named (codes "Signed-off-by") trailer.token) all)

-- the last trailer of a message, or none
abbrev pub IsLastTrailer : List ℕ → Option TrailerView → Type 0
IsLastTrailer message last = (all : List TrailerView) × HasTrailers message all × (last ≡ last_or None all)

-- a line of the message's trailer block continues the line before it
pub record HasContinuedLine (message : List ℕ) : Type 0 where
  pub block : List ℕ
  pub before : List (List ℕ)
  pub line : List ℕ
  pub after : List (List ℕ)
  pub is_block : HasTrailerBlock message block
  pub lines : lines_of block ≡ before ++ line ∷ after
  pub continues : is_continuation_line line ≡ true
