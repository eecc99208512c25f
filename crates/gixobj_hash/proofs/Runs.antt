-- Runs over pieces: consumed, completed, concatenated and split; used by the proofs of tokens and entries.
use Rattle.std.proofs.Common.{◌≡◌, ℕ, List, [], ◌∷◌, ◌++◌, refl, sym, ap, subst, ◌∙◌}
use Rattle.std.proofs.lemmas.List.Elements.{All-head, All-tail}
use Rattle.std.specs.List.{AllZip, concat}
use Rattle.gixobj_hash.specs.Runs.{Ending, HasNone, BeginsWithPieces, Yields, complete, yields_end, yields_error, yields_piece}

-- ---- pieces that satisfy a predicate

module _ {P : Type 0} (Is : P → Type 0) where
  -- a list with a piece that satisfies `Is` is not without one
  pub one_here : (prefix : List P) (x : P) (more : List P) → Is x → HasNone Is (prefix ++ x ∷ more) → ⊥
  one_here [] x more is none = All-head (λ it. ¬ Is it) x more none is
  one_here (a ∷ prefix) x more is none = one_here prefix x more is (All-tail (λ it. ¬ Is it) a (prefix ++ x ∷ more) none)

module _ {S P : Type 0} (Has : S → List ℕ → P → S → List ℕ → Type 0) where
  -- ---- consumed pieces

  pub begins_with_pieces_snoc : (before next following : S) (input after rest : List ℕ) (pieces : List P) (piece : P)
      → BeginsWithPieces Has before input pieces next after
      → Has next after piece following rest
      → BeginsWithPieces Has before input (pieces ++ piece ∷ []) following rest
  begins_with_pieces_snoc before next following input after rest [] piece (same_state, same_input) has =
      (following, rest, rw (same_state, same_input) has, (refl, refl))
  begins_with_pieces_snoc before next following input after rest (first ∷ pieces) piece (middle, further, it, more) has =
      (middle, further, it, begins_with_pieces_snoc middle next following further after rest pieces piece more has)

  pub yields_of_begins_with_pieces : (before following : S) (input rest : List ℕ) (pieces : List P) (ending : Ending)
      → BeginsWithPieces Has before input pieces following rest
      → Yields Has following rest [] ending → Yields Has before input pieces ending
  yields_of_begins_with_pieces before following input rest [] ending (same_state, same_input) yields = rw (same_state, same_input) yields
  yields_of_begins_with_pieces before following input rest (piece ∷ pieces) ending (middle, further, it, more) yields =
      yields_piece before middle input further piece pieces ending it (yields_of_begins_with_pieces middle following further rest pieces ending more yields)

  -- ---- encodings

  -- the input of a complete run is the concatenated encodings of its pieces
  pub run_encodings : (IsByteString : P → List ℕ → Type 0)
      → ((before : S) (input : List ℕ) (piece : P) (following : S) (rest : List ℕ) → Has before input piece following rest → (content : List ℕ)
      × (input ≡ content ++ rest) × IsByteString piece content)
      → (before : S) (input : List ℕ) (pieces : List P) → Yields Has before input pieces complete → (encodings : List (List ℕ)) × (input ≡ concat encodings)
      × AllZip IsByteString pieces encodings
  run_encodings IsByteString bytes_of before input pieces (yields_end _) = ([], refl, tt)
  run_encodings IsByteString bytes_of before input pieces (yields_piece _ following _ rest piece others _ it more) =
      let (content, joined, is) = bytes_of before input piece following rest it in
      let (encodings, others_joined, are) = run_encodings IsByteString bytes_of following rest others more in
      (content ∷ encodings, joined ∙ ap (λ (tail : List ℕ). content ++ tail) others_joined, (is, are))

  -- ---- a run is unique if each piece decodes uniquely and has at least one byte

  module _ (one : (before : S) (input : List ℕ) (a b : P) (s t : S) (x y : List ℕ) → Has before input a s x → Has before input b t y → (a ≡ b) × (s ≡ t)
      × (x ≡ y))
      (some : (before : S) (input : List ℕ) (piece : P) (following : S) (rest : List ℕ) → input ≡ [] → Has before input piece following rest → ⊥) where
    pub one_run : (before : S) (input : List ℕ) (a b : List P) (e f : Ending) → Yields Has before input a e → Yields Has before input b f → (a ≡ b) × (e ≡ f)
    one_run before input a b e f (yields_end _) (yields_end _) = (refl, refl)
    one_run before input a b e f (yields_end _) (yields_error _ _ filled none) = absurd (filled refl)
    one_run before input a b e f (yields_end _) (yields_piece _ following _ rest piece _ _ has seen) = absurd (some before [] piece following rest refl has)
    one_run before input a b e f (yields_error _ _ filled none) (yields_end _) = absurd (filled refl)
    one_run before input a b e f (yields_error _ _ filled none) (yields_error _ _ _ _) = (refl, refl)
    one_run before input a b e f (yields_error _ _ filled none) (yields_piece _ following _ rest piece _ _ has seen) = absurd (none piece following rest has)
    one_run before input a b e f (yields_piece _ following _ rest piece _ _ has seen) (yields_end _) = absurd (some before [] piece following rest refl has)
    one_run before input a b e f (yields_piece _ following _ rest piece _ _ has seen) (yields_error _ _ filled none) = absurd (none piece following rest has)
    one_run before input a b e f (yields_piece _ following _ rest piece pieces _ has seen) (yields_piece _ after' _ rest' piece' pieces' _ has' seen') =
        let same = one before input piece piece' following after' rest rest' has has' in
        let at_state : Yields Has following rest' pieces' f = subst (λ (s : S). Yields Has s rest' pieces' f) (sym same.1) seen' in
        let at_rest : Yields Has following rest pieces' f = subst (λ (r : List ℕ). Yields Has following r pieces' f) (sym same.2) at_state in
        let more = one_run following rest pieces pieces' e f seen at_rest in
        (cc (same.0, more.0), more.1)

    -- the pieces are the prefix and others, and the run over the rest yields the others
    pub record GoesOn (prefix all : List P) (following : S) (rest : List ℕ) (ending : Ending) : Type 0 where
      pub others : List P
      pub joined : all ≡ prefix ++ others
      pub yielded : Yields Has following rest others ending

    -- the run after its first piece yields the other pieces
    pub after_first : (before following : S) (input rest : List ℕ) (piece : P) (all : List P) (ending : Ending) → Has before input piece following rest
        → Yields Has before input all ending
        → GoesOn (piece ∷ []) all following rest ending
    after_first before following input rest piece all ending has (yields_end _) = absurd (some before [] piece following rest refl has)
    after_first before following input rest piece all ending has (yields_error _ _ filled none) = absurd (none piece following rest has)
    after_first before following input rest piece all ending has (yields_piece _ after' _ rest' piece' others _ has' yielded) =
        let same = one before input piece piece' following after' rest rest' has has' in
        let at_state : Yields Has following rest' others ending = subst (λ (s : S). Yields Has s rest' others ending) (sym same.1) yielded in
        record {
          others = others;
          joined = ap (λ (it : P). it ∷ others) (sym same.0);
          yielded = subst (λ (r : List ℕ). Yields Has following r others ending) (sym same.2) at_state;
        }

    -- the run after consumed pieces yields the other pieces
    pub yields_after_pieces : (before following : S) (input rest : List ℕ) (prefix all : List P) (ending : Ending)
        → BeginsWithPieces Has before input prefix following rest
        → Yields Has before input all ending → GoesOn prefix all following rest ending
    yields_after_pieces before following input rest [] all ending (same_state, same_input) yields =
        record { others = all; joined = refl; yielded = rw (← same_state, ← same_input) yields }
    yields_after_pieces before following input rest (piece ∷ prefix) all ending (next, after, has, more) yields =
        let first = after_first before next input after piece all ending has yields in
        let further = yields_after_pieces next following after rest prefix first.others ending more first.yielded in
        record { others = further.others; joined = first.joined ∙ ap (λ (it : List P). piece ∷ it) further.joined; yielded = further.yielded }
