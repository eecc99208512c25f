-- Messages of a title and trailers, each of one line (git-interpret-trailers, "DESCRIPTION").
use Rattle.std.specs.Prelude.{◌≡◌, ◌≢◌, ◌++◌, ◌∷◌, ℕ, All, List, [], Option, None, Some, if◌then◌else◌, length, map, ⊤}
use Rattle.std.specs.List.{AllPass, concat}
use Rattle.gix_object.specs.Bytes.{carriage_return, newline, space}
use Rattle.gix_object.specs.BodyLines.{colon, is_token_byte, without_last_byte}
use Rattle.gix_object.specs.ByteStrings.{IsByteFree, trimmed}
use Rattle.gix_object.specs.MessageTrailers.{HasTrailers}
use Rattle.gix_object.specs.Titles.{SplitsTitle}
use Rattle.gix_object.specs.TrailerBlocks.{IsTrailerBlockStart}
use Rattle.gix_object.specs.TrailerNames.{is_named}
use Rattle.gix_object.specs.Trailers.{TrailerView}
use Rattle.gixobj_examples_objects.specs.declared.assembler.MessageError.{MessageError}
use Rattle.gixobj_examples_objects.specs.declared.assembler.MessageError.TheVariants as message

-- a title of one line: it has no newline, and doesn't end in a carriage return
pub record IsTitleLine (title : List ℕ) : Type 0 where
  pub one_line : IsByteFree newline title
  pub no_return : without_last_byte carriage_return title ≡ title

-- a trailer of one line: its token has token bytes alone, and one at least; its value has no newline, and no white
-- space at its ends
pub record IsLineTrailer (trailer : TrailerView) : Type 0 where
  pub some : trailer.token ≢ []
  pub of_token : AllPass is_token_byte trailer.token
  pub one_line : IsByteFree newline trailer.value
  pub no_return : without_last_byte carriage_return trailer.value ≡ trailer.value
  pub value : trimmed (space ∷ trailer.value) ≡ trailer.value

-- the content of a trailer's line: token, colon, space and value
abbrev pub trailer_content : TrailerView → List ℕ
trailer_content trailer = trailer.token ++ colon ∷ space ∷ trailer.value

-- a trailer as a line
abbrev pub trailer_line : TrailerView → List ℕ
trailer_line trailer = trailer_content trailer ++ newline ∷ []

-- trailers, a line each
abbrev pub trailer_lines : List TrailerView → List ℕ
trailer_lines trailers = concat (map trailer_line trailers)

-- the message of a title, an empty line, and trailers
abbrev pub assembled_message : List ℕ → List TrailerView → List ℕ
assembled_message title trailers = title ++ newline ∷ newline ∷ trailer_lines trailers

-- the body of the message: the lines of the trailers; none without trailers
abbrev pub trailer_body : List TrailerView → Option (List ℕ)
trailer_body [] = None
trailer_body (trailer ∷ trailers) = Some (trailer_lines (trailer ∷ trailers))

-- ---- a description before the trailers

-- an empty line, and the lines of the trailers; nothing without trailers
abbrev pub trailer_section : List TrailerView → List ℕ
trailer_section [] = []
trailer_section (trailer ∷ trailers) = newline ∷ trailer_lines (trailer ∷ trailers)

-- the body of a description, with a newline after it, and trailers
abbrev pub described_body : List ℕ → List TrailerView → List ℕ
described_body description trailers = description ++ newline ∷ trailer_section trailers

-- the message of a title, an empty line, a description and trailers
abbrev pub described_message : List ℕ → List ℕ → List TrailerView → List ℕ
described_message title description trailers = title ++ newline ∷ newline ∷ described_body description trailers

-- ---- results

-- a token: one byte at least, and token bytes alone
abbrev pub IsToken : List ℕ → Type 0
IsToken bytes = (bytes ≢ []) × AllPass is_token_byte bytes

-- the bytes are the message of this title and these trailers, each of one line; it has this title and these trailers
pub record IsMessageOf (title : List ℕ) (trailers : List TrailerView) (bytes : List ℕ) : Type 0 where
  pub message : bytes ≡ assembled_message title trailers
  pub one_line : IsTitleLine title
  pub lines : All IsLineTrailer trailers
  pub split : SplitsTitle bytes title (trailer_body trailers)
  pub has : HasTrailers bytes trailers

-- the bytes are the message of this title, this description and these trailers, each of one line; it has this title. If
-- there are trailers, it has them; if the description doesn't end in a carriage return, their block follows it
pub record IsDescribedMessageOf (title description : List ℕ) (trailers : List TrailerView)
    (bytes : List ℕ) : Type 0 where
  pub message : bytes ≡ described_message title description trailers
  pub one_line : IsTitleLine title
  pub lines : All IsLineTrailer trailers
  pub split : SplitsTitle bytes title (Some (described_body description trailers))
  pub start : trailers ≢ [] → without_last_byte carriage_return description ≡ description
      → IsTrailerBlockStart (described_body description trailers) (length description)
  pub has : trailers ≢ [] → HasTrailers bytes trailers

-- this is the index of the first trailer that isn't one line
abbrev pub IsFirstOther : List TrailerView → ℕ → Type 0
IsFirstOther trailers index = (before after : List TrailerView) × (trailer : TrailerView)
    × (trailers ≡ before ++ trailer ∷ after) × (length before ≡ index) × All IsLineTrailer before
    × (¬ IsLineTrailer trailer)

-- the errors of a title: it isn't one line
abbrev pub IsTitleError : List ℕ → MessageError → Type 0
IsTitleError title message.Title = ¬ IsTitleLine title
IsTitleError title (message.Trailer index) = ⊥
IsTitleError title message.OutOfMemory = ⊤

-- the errors of trailers: of the first that isn't one line
abbrev pub IsTrailerError : List TrailerView → MessageError → Type 0
IsTrailerError trailers message.Title = ⊥
IsTrailerError trailers (message.Trailer index) = IsFirstOther trailers index
IsTrailerError trailers message.OutOfMemory = ⊤

-- the errors of a message: of a title that isn't one line; or else of the first trailer that isn't one line
abbrev pub IsMessageError : List ℕ → List TrailerView → MessageError → Type 0
IsMessageError title trailers message.Title = ¬ IsTitleLine title
IsMessageError title trailers (message.Trailer index) = IsTitleLine title × IsFirstOther trailers index
IsMessageError title trailers message.OutOfMemory = ⊤

-- ---- renamed trailers

-- the trailer with another token, if its token is this name, ASCII case ignored
abbrev pub renamed : List ℕ → List ℕ → TrailerView → TrailerView
renamed from to trailer =
    if is_named from trailer.token then record { token = to; value = trailer.value } else trailer

-- the title and the trailers of a message
pub record HasParts (message title : List ℕ) (trailers : List TrailerView) : Type 0 where
  pub body : Option (List ℕ)
  pub split : SplitsTitle message title body
  pub has : HasTrailers message trailers

-- the bytes are the message of the title and the renamed trailers of another
abbrev pub IsRenamed : List ℕ → List ℕ → List ℕ → List ℕ → Type 0
IsRenamed from to before after = (title : List ℕ) × (trailers : List TrailerView) × HasParts before title trailers
    × IsMessageOf title (map (renamed from to) trailers) after

-- the errors of a message of the title and the renamed trailers of another
abbrev pub IsRenamingError : List ℕ → List ℕ → List ℕ → MessageError → Type 0
IsRenamingError from to before message.OutOfMemory = ⊤
IsRenamingError from to before error = (title : List ℕ) × (trailers : List TrailerView) × HasParts before title trailers
    × IsMessageError title (map (renamed from to) trailers) error
