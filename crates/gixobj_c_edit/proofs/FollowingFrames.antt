-- Frames of trees that follow each other.
use Rattle.std.proofs.Common.{◌≡◌, ◌<◌, ◌≤◌, ◌+◌, ◌∷◌, ◌++◌, ◌∙◌, ◌⊎◌, All, Contains, List, [], ℕ, add-one, ap, append-nil, append_assoc, arith, get_or, inl}
use Rattle.std.proofs.Common.{inr, length, refl, subst, suc, sym, take, zero}
use Rattle.std.proofs.Math.Seq.{take-suc}
use Rattle.std.proofs.lemmas.Grind.{flat_map-append}
use Rattle.std.proofs.lemmas.List.{take_all}
use Rattle.std.proofs.lemmas.List.Elements.{All-append, All-cons, All-contains, All-nil, Contains-append_left, Contains-append_right, Contains-push}
use Rattle.std.specs.List.{flat_map}
use Rattle.std.specs.Prelude.{Err, IfErr, IsErrAnd, Ok, Result}
use Rattle.gixobj_c_edit.specs.Edits.{IsLossyEmitted}
use Rattle.gixobj_c_edit.specs.Frames.{IsFrameError, IsFramesEncodeError, encode_frame}
use Rattle.gixobj_c_edit.specs.Lossy.{IsLossless}
use Rattle.gixobj_c_edit.specs.declared.failure.Failure.{Failure}
use Rattle.gixobj_c_edit.specs.declared.failure.Failure.TheVariants as failure
use Rattle.gixobj_c_edit.proofs.EditRuns.{IsEncodable}
use Rattle.gixobj_editor.specs.Commands.{emitted_pairs}
use Rattle.gixobj_editor.specs.declared.reply.Reply.{Reply}
use Rattle.gixobj_hash.specs.declared.hash.kind.Kind.{Kind}
use Rattle.gixobj_streams.specs.declared.encode.Error.{Error}
use Rattle.gixobj_tree_entries.specs.Entries.{Pair}
use Rattle.gixobj_tree.specs.TreeEncoding.{IsEncodableTree}

contains_flat_map : {X A : Type 0} (f : X → List A) (xs : List X) (i : ℕ) (x : X) (a : A) → i < length xs → x ≡ get_or xs i x → Contains (f x) a
    → Contains (flat_map f xs) a
contains_flat_map f [] i x a within is has = absurd (omega (arith, within))
contains_flat_map {X} f (y ∷ xs) zero x a within is has = Contains-append_left (f y) (flat_map f xs) a (subst (λ (z : X). Contains (f z) a) is has)
contains_flat_map f (y ∷ xs) (suc i) x a within is has =
    Contains-append_right (f y) (flat_map f xs) a (contains_flat_map f xs i x a (omega (arith, within)) is has)

contains_at : (xs : List Pair) (i : ℕ) (x : Pair) → i < length xs → x ≡ get_or xs i x → Contains xs x
contains_at [] i x within is = absurd (omega (arith, within))
contains_at (y ∷ xs) zero x within is = Contains-append_left (y ∷ []) xs x (subst (λ (z : Pair). Contains (z ∷ []) x) is (Contains-push [] x))
contains_at (y ∷ xs) (suc i) x within is = Contains-append_right (y ∷ []) xs x (contains_at xs i x (omega (arith, within)) is)

module _ {X : Type 0} (f : X → List Pair) (xs : List X) (i : ℕ) where
  module _ (x : X) (within : i < length xs) (is : x ≡ get_or xs i x) where
    pairs_snoc : flat_map f (take (i + 1) xs) ≡ flat_map f (take i xs) ++ f x
    pairs_snoc =
        let longer : take (i + 1) xs ≡ take i xs ++ x ∷ [] =
        ap (λ (n : ℕ). take n xs) (add-one i) ∙ take-suc xs i x within ∙ ap (λ (y : X). take i xs ++ y ∷ []) (sym is) in
        ap (flat_map f) longer ∙ flat_map-append f (take i xs) (x ∷ []) ∙ ap (λ (pairs : List Pair). flat_map f (take i xs) ++ pairs) (append-nil (f x))

    pub frames_snoc : (start old new : List ℕ) → old ≡ start ++ flat_map encode_frame (flat_map f (take i xs))
        → new ≡ old ++ flat_map encode_frame (f x) → new ≡ start ++ flat_map encode_frame (flat_map f (take (i + 1) xs))
    frames_snoc start old new before after =
        let all = ap (flat_map encode_frame) pairs_snoc ∙ flat_map-append encode_frame (flat_map f (take i xs)) (f x) in
        after ∙ ap (λ (bytes : List ℕ). bytes ++ flat_map encode_frame (f x)) before
        ∙ append_assoc start (flat_map encode_frame (flat_map f (take i xs))) (flat_map encode_frame (f x))
        ∙ ap (λ (bytes : List ℕ). start ++ bytes) (sym all)

    pub lossless_snoc : (hash : Kind) → All (λ pair. IsLossless hash pair.1) (flat_map f (take i xs)) → All (λ pair. IsLossless hash pair.1) (f x)
        → All (λ pair. IsLossless hash pair.1) (flat_map f (take (i + 1) xs))
    lossless_snoc hash before own = subst (All (λ (pair : Pair). IsLossless hash pair.1)) (sym pairs_snoc)
        (All-append (λ (pair : Pair). IsLossless hash pair.1) (flat_map f (take i xs)) (f x) before own)

    pub frames_error_at : (hash : Kind) (it : Failure) → IsFramesEncodeError hash (f x) it → IsFramesEncodeError hash (flat_map f xs) it
    frames_error_at hash it error = (error.0, contains_flat_map f xs i x error.0 within is error.1, error.2)

  pub frames_all : (start new : List ℕ) → length xs ≤ i → new ≡ start ++ flat_map encode_frame (flat_map f (take i xs))
      → new ≡ start ++ flat_map encode_frame (flat_map f xs)
  frames_all start new all is = is ∙ ap (λ (them : List X). start ++ flat_map encode_frame (flat_map f them)) (take_all i xs all)

  pub lossless_all : (hash : Kind) → length xs ≤ i → All (λ pair. IsLossless hash pair.1) (flat_map f (take i xs))
      → All (λ pair. IsLossless hash pair.1) (flat_map f xs)
  lossless_all hash all each =
      subst (λ (them : List X). All (λ (pair : Pair). IsLossless hash pair.1) (flat_map f them)) (take_all i xs all) each

-- ---- trees

module _ (hash : Kind) (xs : List Pair) (i : ℕ) (x : Pair) (within : i < length xs) (is : x ≡ get_or xs i x) where
  trees_longer : take (i + 1) xs ≡ take i xs ++ x ∷ []
  trees_longer = ap (λ (n : ℕ). take n xs) (add-one i) ∙ take-suc xs i x within ∙ ap (λ (y : Pair). take i xs ++ y ∷ []) (sym is)

  pub tree_frames_snoc : (start old new : List ℕ) → old ≡ start ++ flat_map encode_frame (take i xs) → new ≡ old ++ encode_frame x
      → new ≡ start ++ flat_map encode_frame (take (i + 1) xs)
  tree_frames_snoc start old new before after =
      let all = ap (flat_map encode_frame) trees_longer ∙ flat_map-append encode_frame (take i xs) (x ∷ [])
      ∙ ap (λ (bytes : List ℕ). flat_map encode_frame (take i xs) ++ bytes) (append-nil (encode_frame x)) in
      after ∙ ap (λ (bytes : List ℕ). bytes ++ encode_frame x) before
      ∙ append_assoc start (flat_map encode_frame (take i xs)) (encode_frame x)
      ∙ ap (λ (bytes : List ℕ). start ++ bytes) (sym all)

  pub lossless_trees_snoc : All (λ pair. IsLossless hash pair.1) (take i xs) → IsLossless hash x.1 → All (λ pair. IsLossless hash pair.1) (take (i + 1) xs)
  lossless_trees_snoc before own =
      let P : Pair → Type 0 = λ pair. IsLossless hash pair.1 in
      subst (All P) (sym trees_longer) (All-append P (take i xs) (x ∷ []) before (All-cons P x [] own (All-nil P)))

  pub tree_error_at : (it : Failure) → IsFrameError hash x it → IsFramesEncodeError hash xs it
  tree_error_at it error = (x, contains_at xs i x within is, error)

-- the result of `?` after an error
pub error_of_residual : {T : Type 0} (result : Result T Failure) (it : Failure) (P : Failure → Type 0) → IsErrAnd result (λ other. other ≡ it) → P it
    → IfErr result P
error_of_residual (Ok x) it P is error = tt
error_of_residual (Err other) it P is error = subst P (sym is) error

-- ---- trees that can be encoded

module _ (hash : Kind) (all : List (Reply Error)) where
  output_error : (pair : Pair) (it : Failure) → Contains (emitted_pairs all) pair → IsEncodableTree pair.1 → IsFrameError hash pair it
      → IsLossyEmitted hash all it ⊎ (it ≡ failure.OutOfMemory)
  output_error pair failure.OutOfMemory has encodable error = inr refl
  output_error pair (failure.LossyTree id) has encodable (same, lossy) = inl (pair, has, lossy, ap failure.LossyTree same)
  output_error pair failure.NotEncodable has encodable (value, parts, rejected) = absurd (encodable value parts rejected)
  output_error pair it has encodable error = absurd error

  pub error_of_frames : (it : Failure) → All IsEncodable (emitted_pairs all) → IsFramesEncodeError hash (emitted_pairs all) it
      → IsLossyEmitted hash all it ⊎ (it ≡ failure.OutOfMemory)
  error_of_frames it encodable (pair, has, error) =
      output_error pair it has (All-contains IsEncodable (emitted_pairs all) pair encodable has) error
