-- The lines of a commit up to a header of a name: for `find_header`.
use Rattle.std.proofs.Common.{◌≡◌, ◌≢◌, ◌+◌, ◌-◌, ◌++◌, ◌∷◌, ◌==◌, ◌∙◌, true, false, append_assoc, append-nil, arith, ap, codes, length, refl, sym, take, ℕ}
use Rattle.std.proofs.Common.{List, []}
use Rattle.std.proofs.Math.Seq.{take-append_seam}
use Rattle.std.proofs.lemmas.Bool.{eqb-true}
use Rattle.std.proofs.lemmas.List.{length-append, length-take}
use Rattle.std.proofs.lemmas.List.Elements.{All-push}
use Rattle.gixobj_hash.proofs.Runs.{begins_with_pieces_snoc, yields_of_begins_with_pieces}
use Rattle.gixobj_hash.specs.FieldFormat.{encode_field}
use Rattle.gixobj_hash.specs.Runs as runs
use Rattle.gixobj_hash.specs.Runs.{BeginsWithOtherPieces, Yields, broken, complete, yields_end, yields_error}
use Rattle.gixobj_hash.specs.declared.decode.Error.{Error}
use Rattle.gixobj_hash.specs.declared.decode.Error.TheVariants.{Malformed, OutOfMemory}
use Rattle.gixobj_hash.specs.declared.hash.kind.Kind.{Kind}
use Rattle.gixobj_grammar.specs.Lines.{BeginsWithLine, LineView, IsLineError, author_comes, committer_comes, encoding_comes, first_header_comes}
use Rattle.gixobj_grammar.specs.Lines.{first_message_comes, header_comes, message_comes, parent_comes, tree_comes}
use Rattle.gixobj_grammar.specs.declared.lines.State.{State}
use Rattle.gixobj_grammar.specs.declared.lines.State.TheVariants as state
use Rattle.gixobj_grammar.specs.CommitHeaders.{IsNamedLine, IsNamedHeaderError}

-- the bytes of a line are a prefix of the input
pub token_bytes_are_prefix : (kind : Kind) (before : State) (input : List ℕ) (line : LineView) (after : State) (rest : List ℕ)
    → BeginsWithLine kind before input line after rest
    → (one : List ℕ) × (input ≡ one ++ rest)
token_bytes_are_prefix kind before input line after rest (tree_comes _ hex _ has) = (encode_field (codes "tree") hex, has.0.joined)
token_bytes_are_prefix kind before input line after rest (parent_comes _ hex _ has) = (encode_field (codes "parent") hex, has.0.joined)
token_bytes_are_prefix kind before input line after rest (author_comes _ content _ has) = (encode_field (codes "author") content, has.0.joined)
token_bytes_are_prefix kind before input line after rest (committer_comes _ content _ has) = (encode_field (codes "committer") content, has.0.joined)
token_bytes_are_prefix kind before input line after rest (encoding_comes _ encoding _ has) = (encode_field (codes "encoding") encoding, has.joined)
token_bytes_are_prefix kind before input line after rest (first_header_comes _ header _ has other) = (has.encoded, has.joined)
token_bytes_are_prefix kind before input line after rest (header_comes _ header _ has) = (has.encoded, has.joined)
token_bytes_are_prefix kind before input line after rest (first_message_comes _ message is) = (10 ∷ message, is ∙ sym (append-nil (10 ∷ message)))
token_bytes_are_prefix kind before input line after rest (message_comes _ message is) = (10 ∷ message, is ∙ sym (append-nil (10 ∷ message)))

-- the position advances with each line
eq_take_append_rest : (one prefix rest all : List ℕ) (n : ℕ) → all ≡ (prefix ++ one) ++ rest → length (prefix ++ one) ≡ n → all ≡ take n all ++ rest
eq_take_append_rest one prefix rest all n is as_long =
    is ∙ ap (λ (xs : List ℕ). xs ++ rest)
    (sym (ap (take n) is ∙ ap (λ m. take m ((prefix ++ one) ++ rest)) (sym as_long) ∙ take-append_seam (prefix ++ one) rest))

pub offset_advances : (content rest one after : List ℕ) (position : ℕ) → position + length rest ≡ length content → content ≡ take position content ++ rest
    → rest ≡ one ++ after
    → content ≡ take (position + (length rest - length after)) content ++ after
offset_advances content rest one after position position_is joined is =
    let longer : length rest ≡ length one + length after = ap length is ∙ length-append one after in
    let taken : length (take position content) ≡ position = length-take position content ∙ omega arith in
    eq_take_append_rest one (take position content) after content (position + (length rest - length after))
    (joined ∙ ap (λ (xs : List ℕ). take position content ++ xs) is ∙ sym (append_assoc (take position content) one after))
    (length-append (take position content) one ∙ omega arith)

-- no consumed line has the name
module _ (kind : Kind) (name content : List ℕ) (here : State) (rest : List ℕ)
    (begins_with : BeginsWithOtherPieces (BeginsWithLine kind) (IsNamedLine name) state.Tree content here rest) where
  pub begins_with_more_pieces : (line : LineView) (next : State) (after : List ℕ) → BeginsWithLine kind here rest line next after → ¬ IsNamedLine name line
      → BeginsWithOtherPieces (BeginsWithLine kind) (IsNamedLine name) state.Tree content next after
  begins_with_more_pieces line next after has other = (
    begins_with.0 ++ line ∷ [],
    begins_with_pieces_snoc (BeginsWithLine kind) state.Tree here next content rest after begins_with.0 line begins_with.1 has,
    All-push (λ it. ¬ IsNamedLine name it) begins_with.0 line begins_with.2 other,
  )

  pub ended : rest ≡ [] → runs.YieldsNone (BeginsWithLine kind) (IsNamedLine name) state.Tree content complete
  ended none =
      let yields : Yields (BeginsWithLine kind) here rest [] complete = rw none (yields_end here) in (
        begins_with.0,
        yields_of_begins_with_pieces (BeginsWithLine kind) state.Tree here content rest begins_with.0 complete begins_with.1 yields,
        begins_with.2,
      )

  pub rejected : (error : Error) → rest ≢ [] → IsLineError kind here rest error → IsNamedHeaderError kind name content error
  rejected Malformed some none =
      let yields : Yields (BeginsWithLine kind) here rest [] broken = yields_error here rest some none in
      (begins_with.0, yields_of_begins_with_pieces (BeginsWithLine kind) state.Tree here content rest begins_with.0 broken begins_with.1 yields, begins_with.2)
  rejected OutOfMemory some wants = (here, rest, begins_with, wants)

-- whether bytes remain, by their length
pub not_nil_of_test : (xs : List ℕ) → (length xs == 0) ≡ false → xs ≢ []
not_nil_of_test [] is = cc is
not_nil_of_test (x ∷ xs) is = λ none. cc none

pub nil_of_test : (xs : List ℕ) → (length xs == 0) ≡ true → xs ≡ []
nil_of_test [] is = refl
nil_of_test (x ∷ xs) is = absurd (let e : length (x ∷ xs) ≡ 0 = eqb-true (length (x ∷ xs)) 0 is in omega (arith, e))
