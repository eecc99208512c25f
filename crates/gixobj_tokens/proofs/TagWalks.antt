-- An iterator over tags that consumes all tokens.
use Rattle.std.proofs.Common.{◌++◌, ◌∷◌, ◌∙◌, List, [], ℕ, Ok, Err, Some, None, ap, subst, sym}
use Rattle.gixobj_hash.proofs.Runs.{begins_with_pieces_snoc, yields_of_begins_with_pieces}
use Rattle.gixobj_parse.specs.Iterators.{ReaderState}
use Rattle.gixobj_hash.specs.Runs.{HasNoPiece, broken, complete, yields_end, yields_error}
use Rattle.gixobj_hash.specs.declared.decode.Error.{Error}
use Rattle.gixobj_hash.specs.declared.decode.Error.TheVariants.{Malformed, OutOfMemory}
use Rattle.gixobj_hash.specs.declared.hash.kind.Kind.{Kind}
use Rattle.gixobj_grammar.specs.TagTokens.{BeginsWithTagToken, TagTokenView, tag_token_view}
use Rattle.gixobj_tokens.specs.TagTokenSteps.{NextTagToken, HasConsumedTagTokens, IsAtStartOfTag, YieldsTagTokens, tag_reader_state}
use Rattle.gixobj_grammar.specs.declared.tokens.State.{State}
use Rattle.gixobj_grammar.specs.declared.tokens.State.TheVariants as state
use Rattle.gixobj_tokens.specs.declared.tag.TagRefIter.{TagRefIter}
use Rattle.gixobj_grammar.specs.declared.tokens.Token.{Token}

module _ (kind : Kind) (content : List ℕ) where
  pub starts : (reader : TagRefIter) → IsAtStartOfTag kind content reader → HasConsumedTagTokens kind content [] reader
  starts reader start = (
    (ap (λ (it : ReaderState Kind State). it.state) (sym start), ap (λ (it : ReaderState Kind State). it.bytes) (sym start)),
    ap
        (λ (it : ReaderState Kind State). it.kind) start,
  )

  pub goes_on : (tokens : List TagTokenView) (at after : TagRefIter) (token : Token) → HasConsumedTagTokens kind content tokens at
      → NextTagToken at (Some (Ok token)) after → HasConsumedTagTokens kind content (tokens ++ tag_token_view token ∷ []) after
  goes_on tokens at after token (consumed, same_kind) (has, kept, such) =
      let here = subst (λ (it : Kind). BeginsWithTagToken it (tag_reader_state at).state (tag_reader_state at).bytes (tag_token_view token)
      (tag_reader_state after).state (tag_reader_state after).bytes) same_kind has in (
        begins_with_pieces_snoc (BeginsWithTagToken kind) state.Target (tag_reader_state at).state (tag_reader_state after).state content
            (tag_reader_state at).bytes
            (tag_reader_state after).bytes tokens (tag_token_view token) consumed here,
        kept ∙ same_kind,
      )

  pub ends : (tokens : List TagTokenView) (at after : TagRefIter) → HasConsumedTagTokens kind content tokens at → NextTagToken at None after
      → YieldsTagTokens kind state.Target content tokens complete
  ends tokens at after (consumed, same_kind) gives =
      let end : YieldsTagTokens kind (tag_reader_state at).state (tag_reader_state at).bytes [] complete =
      rw gives.0 (yields_end (tag_reader_state at).state) in
      yields_of_begins_with_pieces (BeginsWithTagToken kind) state.Target (tag_reader_state at).state content
      (tag_reader_state at).bytes tokens complete consumed end

  malformed_only : (at after : TagRefIter) (error : Error) → NextTagToken at (Some (Err error)) after → NextTagToken at (Some (Err Malformed)) after
  malformed_only at after Malformed gives = gives
  malformed_only at after OutOfMemory gives = absurd gives.1

  pub stops : (tokens : List TagTokenView) (at after : TagRefIter) (error : Error) → HasConsumedTagTokens kind content tokens at
      → NextTagToken at (Some (Err error)) after → YieldsTagTokens kind state.Target content tokens broken
  stops tokens at after error (consumed, same_kind) gives =
      let rejected = malformed_only at after error gives in
      let none = subst (λ (it : Kind). HasNoPiece (BeginsWithTagToken it) (tag_reader_state at).state (tag_reader_state at).bytes) same_kind rejected.1 in
      let stop : YieldsTagTokens kind (tag_reader_state at).state (tag_reader_state at).bytes [] broken =
      yields_error (tag_reader_state at).state (tag_reader_state at).bytes rejected.0 none in
      yields_of_begins_with_pieces (BeginsWithTagToken kind) state.Target (tag_reader_state at).state content
      (tag_reader_state at).bytes tokens broken consumed stop
