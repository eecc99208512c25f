-- An iterator over commits that consumes all tokens.
use Rattle.std.proofs.Common.{◌++◌, ◌∷◌, ◌∙◌, List, [], ℕ, Ok, Err, Some, None, ap, subst, sym}
use Rattle.gixobj_hash.proofs.Runs.{begins_with_pieces_snoc, yields_of_begins_with_pieces}
use Rattle.gixobj_parse.specs.Iterators.{ReaderState}
use Rattle.gixobj_hash.specs.Runs.{HasNoPiece, broken, complete, yields_end, yields_error}
use Rattle.gixobj_hash.specs.declared.decode.Error.TheVariants.{Malformed}
use Rattle.gixobj_hash.specs.declared.hash.kind.Kind.{Kind}
use Rattle.gixobj_grammar.specs.declared.lines.State.{State}
use Rattle.gixobj_grammar.specs.declared.lines.State.TheVariants as state
use Rattle.gixobj_tokens.specs.CommitRuns.{YieldsCommitTokens}
use Rattle.gixobj_tokens.specs.CommitTokens.{BeginsWithCommitToken, CommitTokenView, commit_token_view}
use Rattle.gixobj_tokens.specs.CommitTokenSteps.{NextCommitToken, IsAtStartOfCommit, commit_reader_state}
use Rattle.gixobj_tokens.specs.TokenSearch.{HasConsumedCommitTokens}
use Rattle.gixobj_tokens.specs.declared.commit.CommitRefIter.{CommitRefIter}
use Rattle.gixobj_tokens.specs.declared.commit.Token.{Token}

module _ (kind : Kind) (content : List ℕ) where
  pub starts : (reader : CommitRefIter) → IsAtStartOfCommit kind content reader → HasConsumedCommitTokens kind content [] reader
  starts reader start = (
    (ap (λ (it : ReaderState Kind State). it.state) (sym start), ap (λ (it : ReaderState Kind State). it.bytes) (sym start)),
    ap
        (λ (it : ReaderState Kind State). it.kind) start,
  )

  pub goes_on : (tokens : List CommitTokenView) (at after : CommitRefIter) (token : Token) → HasConsumedCommitTokens kind content tokens at
      → NextCommitToken at (Some (Ok token)) after → HasConsumedCommitTokens kind content (tokens ++ commit_token_view token ∷ []) after
  goes_on tokens at after token (consumed, same_kind) (has, kept, such) =
      let here = subst (λ (it : Kind). BeginsWithCommitToken it (commit_reader_state at).state (commit_reader_state at).bytes (commit_token_view token)
      (commit_reader_state after).state (commit_reader_state after).bytes) same_kind has in (
        begins_with_pieces_snoc (BeginsWithCommitToken kind) state.Tree (commit_reader_state at).state (commit_reader_state after).state content
            (commit_reader_state at).bytes
            (commit_reader_state after).bytes tokens (commit_token_view token) consumed here,
        kept ∙ same_kind,
      )

  pub ends : (tokens : List CommitTokenView) (at after : CommitRefIter) → HasConsumedCommitTokens kind content tokens at → NextCommitToken at None after
      → YieldsCommitTokens kind state.Tree content tokens complete
  ends tokens at after (consumed, same_kind) gives =
      let end : YieldsCommitTokens kind (commit_reader_state at).state (commit_reader_state at).bytes [] complete =
      rw gives.0 (yields_end (commit_reader_state at).state) in
      yields_of_begins_with_pieces (BeginsWithCommitToken kind) state.Tree (commit_reader_state at).state content
      (commit_reader_state at).bytes tokens complete consumed end

  pub stops : (tokens : List CommitTokenView) (at after : CommitRefIter) → HasConsumedCommitTokens kind content tokens at
      → NextCommitToken at (Some (Err Malformed)) after → YieldsCommitTokens kind state.Tree content tokens broken
  stops tokens at after (consumed, same_kind) gives =
      let none = subst (λ (it : Kind). HasNoPiece (BeginsWithCommitToken it) (commit_reader_state at).state (commit_reader_state at).bytes) same_kind gives.1 in
      let stop : YieldsCommitTokens kind (commit_reader_state at).state (commit_reader_state at).bytes [] broken =
      yields_error (commit_reader_state at).state (commit_reader_state at).bytes gives.0 none in
      yields_of_begins_with_pieces (BeginsWithCommitToken kind) state.Tree (commit_reader_state at).state content
      (commit_reader_state at).bytes tokens broken consumed stop
