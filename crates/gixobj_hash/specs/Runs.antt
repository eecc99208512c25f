-- Runs of an iterator over the pieces of an object: each step decodes one piece, and leads to the next state
-- and the rest.
use Rattle.std.specs.Prelude.{◌≡◌, ◌≢◌, ℕ, List, [], ◌∷◌, All}
use Rattle.gixobj_hash.specs.declared.decode.Error.{Error}
use Rattle.gixobj_hash.specs.declared.decode.Error.TheVariants.{Malformed, OutOfMemory}

-- the ending of a run: complete if no bytes remain, broken if the remaining bytes do not begin with a piece
pub data Ending : Type 0 where
  complete : Ending
  broken : Ending

-- none of the pieces satisfies `Is`
abbrev pub HasNone : {P : Type 0} → (P → Type 0) → List P → Type 0
HasNone Is pieces = All (λ piece. ¬ Is piece) pieces

module _ {S P : Type 0} (Has : S → List ℕ → P → S → List ℕ → Type 0) where
  -- the input does not begin with a piece
  abbrev pub HasNoPiece : S → List ℕ → Type 0
  HasNoPiece before input = (piece : P) (following : S) (rest : List ℕ) → ¬ Has before input piece following rest

  -- Malformed: the input does not begin with a piece; OutOfMemory: the next piece allocates
  abbrev pub IsPieceError : (S → List ℕ → Type 0) → S → List ℕ → Error → Type 0
  IsPieceError Wants before input Malformed = HasNoPiece before input
  IsPieceError Wants before input OutOfMemory = Wants before input

  -- the complete run from this state over this input yields these pieces, and has this ending
  pub data Yields : S → List ℕ → List P → Ending → Type 0 where
    yields_end : (before : S) → Yields before [] [] complete
    yields_error : (before : S) (input : List ℕ) → input ≢ [] → HasNoPiece before input → Yields before input [] broken
    yields_piece : (before following : S) (input rest : List ℕ) (piece : P) (pieces : List P) (ending : Ending)
        → Has before input piece following rest → Yields following rest pieces ending
        → Yields before input (piece ∷ pieces) ending

  -- the input begins with these pieces, and the rest follows in the state after them
  abbrev pub BeginsWithPieces : S → List ℕ → List P → S → List ℕ → Type 0
  BeginsWithPieces before input [] following rest = (before ≡ following) × (input ≡ rest)
  BeginsWithPieces before input (piece ∷ pieces) following rest = (next : S) × (after : List ℕ)
      × Has before input piece next after × BeginsWithPieces next after pieces following rest

  -- the input begins with pieces that do not satisfy `Is`, and the rest follows in the state after them
  abbrev pub BeginsWithOtherPieces : (P → Type 0) → S → List ℕ → S → List ℕ → Type 0
  BeginsWithOtherPieces Is before input following rest =
      (pieces : List P) × BeginsWithPieces before input pieces following rest
      × HasNone Is pieces

  -- the piece follows pieces that do not satisfy `Is`
  abbrev pub FindsFirst : (P → Type 0) → S → List ℕ → P → Type 0
  FindsFirst Is start input piece = (before following : S) × (here rest : List ℕ)
      × BeginsWithOtherPieces Is start input before here × Has before here piece following rest

  -- the complete run yields no piece that satisfies `Is`, and has this ending
  abbrev pub YieldsNone : (P → Type 0) → S → List ℕ → Ending → Type 0
  YieldsNone Is before input ending = (pieces : List P) × Yields before input pieces ending × HasNone Is pieces
