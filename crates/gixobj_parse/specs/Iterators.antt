-- Iterators over the pieces of an object, and searches for the first piece that satisfies a predicate.
use Rattle.std.specs.Prelude.{◌≡◌, ◌≢◌, ℕ, List, [], Option, Some, None, Result, Ok, Err}
use Rattle.gixobj_hash.specs.Runs as runs
use Rattle.gixobj_hash.specs.Runs.{Ending, broken}
use Rattle.gixobj_hash.specs.declared.decode.Error.{Error}
use Rattle.gixobj_hash.specs.declared.decode.Error.TheVariants.{Malformed, OutOfMemory}

-- the state of an iterator: the kind of its ids, its own state, and its remaining bytes
pub record ReaderState (K S : Type 0) : Type 0 where
  pub kind : K
  pub state : S
  pub bytes : List ℕ

module _ {R K S P : Type 0} (status : R → ReaderState K S) (Has : K → S → List ℕ → P → S → List ℕ → Type 0) where
  -- the iterator consumes pieces that do not satisfy `Is`, and reaches this state and these bytes
  abbrev pub BeginsWithOtherPieces : (P → Type 0) → R → S → List ℕ → Type 0
  BeginsWithOtherPieces Is reader following rest = runs.BeginsWithOtherPieces (Has (status reader).kind) Is
      (status reader).state
      (status reader).bytes following rest

  -- the piece follows pieces that do not satisfy `Is`
  abbrev pub FindsFirst : (P → Type 0) → R → P → Type 0
  FindsFirst Is reader piece = runs.FindsFirst (Has (status reader).kind) Is (status reader).state
      (status reader).bytes piece

  -- the complete run of the iterator yields no piece that satisfies `Is`, and has this ending
  abbrev pub YieldsNone : (P → Type 0) → R → Ending → Type 0
  YieldsNone Is reader ending = runs.YieldsNone (Has (status reader).kind) Is (status reader).state
      (status reader).bytes ending

  -- the iterator consumed pieces that do not satisfy `Is`, and then one that satisfies `This`
  abbrev pub ReadsFirst : (P → Type 0) → (P → Type 0) → R → R → Type 0
  ReadsFirst Is This before after = (state : S) × (input : List ℕ) × (piece : P)
      × BeginsWithOtherPieces Is before state input
      × Has (status before).kind state input piece (status after).state (status after).bytes × This piece
      × ((status after).kind ≡ (status before).kind)

  module _ (Wants : K → S → List ℕ → Type 0) where
    -- one call yields the next piece; or an error, after which no bytes remain; or `None`, if no bytes remain
    abbrev pub NextPiece : {T : Type 0} → (T → P) → (T → Type 0) → R → Option (Result T Error) → R → Type 0
    NextPiece view IsSuch before (Some (Ok piece)) after =
        Has (status before).kind (status before).state (status before).bytes (view piece) (status after).state
        (status after).bytes
        × ((status after).kind ≡ (status before).kind) × IsSuch piece
    NextPiece view IsSuch before (Some (Err error)) after =
        ((status before).bytes ≢ []) × runs.IsPieceError (Has (status before).kind) (Wants (status before).kind)
        (status before).state (status before).bytes error
        × ((status after).bytes ≡ []) × ((status after).kind ≡ (status before).kind)
    NextPiece view IsSuch before None after =
        ((status before).bytes ≡ []) × ((status after).bytes ≡ []) × ((status after).state ≡ (status before).state)
        × ((status after).kind ≡ (status before).kind)

    -- after pieces that do not satisfy `Is` comes one that allocates
    abbrev pub ReachesAllocation : (P → Type 0) → R → Type 0
    ReachesAllocation Is reader = (before : S) × (input : List ℕ) × BeginsWithOtherPieces Is reader before input
        × Wants (status reader).kind before input

    -- the error of a search that needs a piece; Malformed: the run yields none; OutOfMemory: a piece up to it
    -- allocates
    abbrev pub IsRequiredSearchError : (P → Type 0) → R → Error → Type 0
    IsRequiredSearchError Is reader Malformed = (ending : Ending) × YieldsNone Is reader ending
    IsRequiredSearchError Is reader OutOfMemory = ReachesAllocation Is reader

    -- the error of a search that may end without a piece; Malformed: the run is broken; OutOfMemory: a piece
    -- allocates
    abbrev pub IsOptionalSearchError : (P → Type 0) → R → Error → Type 0
    IsOptionalSearchError Is reader Malformed = YieldsNone Is reader broken
    IsOptionalSearchError Is reader OutOfMemory = ReachesAllocation Is reader

    -- a search found no piece that satisfies `Is`, and the iterator is at its end
    abbrev pub ReadsNone : (P → Type 0) → R → R → Type 0
    ReadsNone Is before after = (error : Error) × IsRequiredSearchError Is before error × ((status after).bytes ≡ [])
        × ((status after).kind ≡ (status before).kind)
