-- A search of an iterator consumes other pieces, and finds one or ends; used by the proofs of tokens and entries.
use Rattle.std.proofs.Common.{◌≡◌, ◌≢◌, ◌≤◌, ℕ, List, [], ◌∷◌, ◌++◌, arith, length, refl, subst, ◌∙◌}
use Rattle.std.proofs.lemmas.List.Elements.{All-nil, All-push}
use Rattle.std.specs.Prelude.{Some, None, Result, Ok, Err}
use Rattle.gixobj_hash.proofs.Runs.{begins_with_pieces_snoc, yields_of_begins_with_pieces}
use Rattle.gixobj_parse.specs.Iterators.{IsOptionalSearchError, FindsFirst, IsRequiredSearchError, NextPiece, YieldsNone, BeginsWithOtherPieces, ReadsFirst}
use Rattle.gixobj_parse.specs.Iterators.{ReadsNone, ReaderState}
use Rattle.gixobj_hash.specs.Runs.{IsPieceError, Yields, broken, complete, yields_end, yields_error}
use Rattle.gixobj_hash.specs.declared.decode.Error.{Error}
use Rattle.gixobj_hash.specs.declared.decode.Error.TheVariants.{Malformed, OutOfMemory}

module _ {R K S P T : Type 0} (status : R → ReaderState K S) (Has : K → S → List ℕ → P → S → List ℕ → Type 0) (Wants : K → S → List ℕ → Type 0) (view : T → P)
    (IsSuch : T → Type 0)
    (no_longer : (kind : K) (before : S) (input : List ℕ) (piece : P) (following : S) (rest : List ℕ) → Has kind before input piece following rest
    → length rest ≤ length input) where
  -- the iterator consumed pieces that do not satisfy `Is`, from the first state to the current one
  pub record SearchInvariant (Is : P → Type 0) (reader at : R) : Type 0 where
    pub begins_with : BeginsWithOtherPieces status Has Is reader (status at).state (status at).bytes
    pub same_kind : (status at).kind ≡ (status reader).kind
    pub less : length (status at).bytes ≤ length (status reader).bytes

  pub search_start : (Is : P → Type 0) (reader : R) → SearchInvariant Is reader reader
  search_start Is reader = record { begins_with = ([], (refl, refl), All-nil (λ piece. ¬ Is piece)); same_kind = refl; less = omega arith }

  -- the next piece is decoded by the first iterator's kind of ids
  piece_there : (Is : P → Type 0) (reader at after : R) (item : Result T Error) (piece : T) → SearchInvariant Is reader at
      → NextPiece status Has Wants view IsSuch at (Some item) after → item ≡ Ok piece
      → Has (status reader).kind (status at).state (status at).bytes (view piece) (status after).state (status after).bytes
      × ((status after).kind ≡ (status reader).kind)
  piece_there Is reader at after item piece searches gives ok =
      let read : NextPiece status Has Wants view IsSuch at (Some (Ok piece)) after =
      subst (λ (it : Result T Error). NextPiece status Has Wants view IsSuch at (Some it) after) ok gives in (
        subst (λ (kind : K). Has kind (status at).state (status at).bytes (view piece) (status after).state (status after).bytes) searches.same_kind read.0,
        read.1 ∙ searches.same_kind,
      )

  pub search_on : (Is : P → Type 0) (reader at after : R) (item : Result T Error) (piece : T) → SearchInvariant Is reader at
      → NextPiece status Has Wants view IsSuch at (Some item) after → item ≡ Ok piece → ¬ Is (view piece) → SearchInvariant Is reader after
  search_on Is reader at after item piece searches gives ok other =
      let consumed = searches.begins_with in
      let there = piece_there Is reader at after item piece searches gives ok in
      let less = no_longer (status reader).kind (status at).state (status at).bytes (view piece) (status after).state (status after).bytes there.0 in
      record {
        begins_with = (
          consumed.0 ++ view piece ∷ [],
          begins_with_pieces_snoc (Has (status reader).kind) (status reader).state (status at).state (status after).state (status reader).bytes
              (status at).bytes
              (status after).bytes consumed.0 (view piece) consumed.1 there.0,
          All-push (λ it. ¬ Is it) consumed.0 (view piece) consumed.2 other,
        );
        same_kind = there.1;
        less = omega (arith, less, searches.less);
      }

  -- ---- the piece is found

  pub search_first : (Is : P → Type 0) (reader at after : R) (item : Result T Error) (piece : T) → SearchInvariant Is reader at
      → NextPiece status Has Wants view IsSuch at (Some item) after → item ≡ Ok piece → FindsFirst status Has Is reader (view piece)
  search_first Is reader at after item piece searches gives ok = (
    (status at).state,
    (status after).state,
    (status at).bytes,
    (status after).bytes,
    searches.begins_with,
    (piece_there Is reader at after item piece searches gives ok).0,
  )

  pub reads_first : (Is This : P → Type 0) (reader at after : R) (item : Result T Error) (piece : T) → SearchInvariant Is reader at
      → NextPiece status Has Wants view IsSuch at (Some item) after → item ≡ Ok piece → This (view piece)
      → ReadsFirst status Has Is This reader after
  reads_first Is This reader at after item piece searches gives ok this =
      let there = piece_there Is reader at after item piece searches gives ok in
      ((status at).state, (status at).bytes, view piece, searches.begins_with, there.0, this, there.1)

  -- ---- an error is returned

  error_there : (Is : P → Type 0) (reader at after : R) (error : Error) → SearchInvariant Is reader at
      → NextPiece status Has Wants view IsSuch at (Some (Err error)) after
      → ((status at).bytes ≢ []) × IsPieceError (Has (status reader).kind) (Wants (status reader).kind) (status at).state (status at).bytes error
  error_there Is reader at after error searches gives =
      (gives.0, subst (λ (kind : K). IsPieceError (Has kind) (Wants kind) (status at).state (status at).bytes error) searches.same_kind gives.1)

  fault_of : (Is : P → Type 0) (reader at : R) (error : Error) → SearchInvariant Is reader at → ((status at).bytes ≢ [])
      × IsPieceError (Has (status reader).kind) (Wants (status reader).kind) (status at).state (status at).bytes error
      → IsOptionalSearchError status Has Wants Is reader error
  fault_of Is reader at Malformed searches rejected =
      let consumed = searches.begins_with in
      let yields : Yields (Has (status reader).kind) (status at).state (status at).bytes [] broken =
      yields_error (status at).state (status at).bytes rejected.0 rejected.1 in (
        consumed.0,
        yields_of_begins_with_pieces (Has (status reader).kind) (status reader).state (status at).state (status reader).bytes
            (status at).bytes consumed.0 broken consumed.1 yields,
        consumed.2,
      )
  fault_of Is reader at OutOfMemory searches rejected = ((status at).state, (status at).bytes, searches.begins_with, rejected.1)

  none_of_fault : (Is : P → Type 0) (reader : R) (error : Error) → IsOptionalSearchError status Has Wants Is reader error
      → IsRequiredSearchError status Has Wants Is reader error
  none_of_fault Is reader Malformed fault = (broken, fault)
  none_of_fault Is reader OutOfMemory fault = fault

  pub search_faults : (Is : P → Type 0) (reader at after : R) (item : Result T Error) (received error : Error) → received ≡ error → SearchInvariant Is reader at
      → NextPiece status Has Wants view IsSuch at (Some item) after → item ≡ Err error
      → IsOptionalSearchError status Has Wants Is reader received
  search_faults Is reader at after item received error same searches gives err =
      let rejected : NextPiece status Has Wants view IsSuch at (Some (Err error)) after =
      subst (λ (it : Result T Error). NextPiece status Has Wants view IsSuch at (Some it) after) err gives in
      rw same (fault_of Is reader at error searches (error_there Is reader at after error searches rejected))

  pub search_errors : (Is : P → Type 0) (reader at after : R) (item : Result T Error) (received error : Error) → received ≡ error → SearchInvariant Is reader at
      → NextPiece status Has Wants view IsSuch at (Some item) after → item ≡ Err error
      → IsRequiredSearchError status Has Wants Is reader received
  search_errors Is reader at after item received error same searches gives err =
      none_of_fault Is reader received (search_faults Is reader at after item received error same searches gives err)

  pub reads_error : (Is : P → Type 0) (reader at after : R) (item : Result T Error) (error : Error) → SearchInvariant Is reader at
      → NextPiece status Has Wants view IsSuch at (Some item) after → item ≡ Err error → ReadsNone status Has Wants Is reader after
  reads_error Is reader at after item error searches gives err =
      let rejected : NextPiece status Has Wants view IsSuch at (Some (Err error)) after =
      subst (λ (it : Result T Error). NextPiece status Has Wants view IsSuch at (Some it) after) err gives in
      (error, search_errors Is reader at after item error error refl searches gives err, rejected.2, rejected.3 ∙ searches.same_kind)

  -- ---- the bytes end

  pub search_ends : (Is : P → Type 0) (reader at after : R) → SearchInvariant Is reader at → NextPiece status Has Wants view IsSuch at None after
      → YieldsNone status Has Is reader complete
  search_ends Is reader at after searches gives =
      let consumed = searches.begins_with in
      let yields : Yields (Has (status reader).kind) (status at).state (status at).bytes [] complete = rw gives.0 (yields_end (status at).state) in (
        consumed.0,
        yields_of_begins_with_pieces (Has (status reader).kind) (status reader).state (status at).state (status reader).bytes
            (status at).bytes consumed.0 complete consumed.1 yields,
        consumed.2,
      )

  pub reads_end : (Is : P → Type 0) (reader at after : R) → SearchInvariant Is reader at → NextPiece status Has Wants view IsSuch at None after
      → ReadsNone status Has Wants Is reader after
  reads_end Is reader at after searches gives = (Malformed, (complete, search_ends Is reader at after searches gives), gives.1, gives.3 ∙ searches.same_kind)
