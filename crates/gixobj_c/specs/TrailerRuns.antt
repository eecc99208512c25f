-- Calls about trailers from a cursor of zeros on, one after another.
use Rattle.std.specs.Prelude.{◌≡◌, ◌<◌, ◌⊎◌, ◌++◌, ◌∷◌, ℕ, List, length}
use Rattle.gixobj_c_codes.specs.Codes.{buffer_too_short, out_of_memory}
use Rattle.gixobj_c.specs.Runs.{AreOf}
use Rattle.gixobj_c.specs.declared.laws.trailers.FoundTrailer.{FoundTrailer}
use Rattle.gixobj_text.specs.MessageTrailers.{HasTrailerBlock, HasTrailers}
use Rattle.gixobj_text.specs.Trailers.{TrailerView}

-- the token and the value are those of this trailer
abbrev pub IsTrailerOf : TrailerView → FoundTrailer → Type 0
IsTrailerOf trailer found = (found.token.items ≡ trailer.token) × (found.value.items ≡ trailer.value)

-- these are all trailers of the message, in order
abbrev pub AreTrailersOf : List ℕ → List FoundTrailer → Type 0
AreTrailersOf message found =
    (trailers : List TrailerView) × HasTrailers message trailers × AreOf IsTrailerOf trailers found

-- a trailer of the message has a token or a value that is longer than this
pub record HasLongTrailer (message : List ℕ) (token_size value_size : ℕ) : Type 0 where
  pub before : List TrailerView
  pub trailer : TrailerView
  pub after : List TrailerView
  pub has : HasTrailers message (before ++ trailer ∷ after)
  pub long : (token_size < length trailer.token) ⊎ (value_size < length trailer.value)

-- the message has a trailer block with bytes
abbrev pub HasSomeBlock : List ℕ → Type 0
HasSomeBlock message = (block : List ℕ) × HasTrailerBlock message block × (0 < length block)

-- why not all trailers are found: a token or a value is longer than its buffer; or an allocation failed, for a value or
-- for the trailers, so there is a trailer block
abbrev pub IsTrailerRunStatus : List ℕ → ℕ → ℕ → ℕ → Type 0
IsTrailerRunStatus message token_size value_size status =
    ((status ≡ buffer_too_short) × HasLongTrailer message token_size value_size)
    ⊎ ((status ≡ out_of_memory) × HasSomeBlock message)
