-- The trailers of a message (git-interpret-trailers, "DESCRIPTION").
use Rattle.std.specs.Prelude.{◌≡◌, ℕ, List, [], Option, None, Some, drop}
use Rattle.gixobj_text.specs.Titles.{SplitsTitle}
use Rattle.gixobj_text.specs.TrailerBlocks.{IsTrailerBlockStart}
use Rattle.gixobj_text.specs.Trailers.{TrailerView, trailers_of_bytes}

-- the trailer block at the end of a body; empty without a body
abbrev pub BodyHasTrailerBlock : Option (List ℕ) → List ℕ → Type 0
BodyHasTrailerBlock None block = block ≡ []
BodyHasTrailerBlock (Some body) block = (start : ℕ) × IsTrailerBlockStart body start × (block ≡ drop start body)

-- the trailer block of a message: that of its body
pub record HasTrailerBlock (message block : List ℕ) : Type 0 where
  pub title : List ℕ
  pub body : Option (List ℕ)
  pub split : SplitsTitle message title body
  pub has : BodyHasTrailerBlock body block

-- the trailers of a message: those of its trailer block
abbrev pub HasTrailers : List ℕ → List TrailerView → Type 0
HasTrailers message trailers = (block : List ℕ) × HasTrailerBlock message block × (trailers ≡ trailers_of_bytes block)
