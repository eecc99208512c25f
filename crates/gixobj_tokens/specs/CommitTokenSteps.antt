-- The steps of a token iterator over a commit (gitdatamodel, "commits").
use Rattle.std.specs.Prelude.{◌≡◌, ℕ, List, Option, Some, None, Result, Ok, Err, length, ⊤}
use Rattle.std.specs.Iterator.{Count, at_most}
use Rattle.gixobj_hash.specs.declared.decode.Error.{Error}
use Rattle.gixobj_hash.specs.declared.decode.Error.TheVariants.{Malformed}
use Rattle.gixobj_hash.specs.declared.hash.kind.Kind.{Kind}
use Rattle.gixobj_hash.specs.declared.hash.object_id.ObjectId.{ObjectId}
use Rattle.gixobj_parse.specs.Iterators.{NextPiece, ReaderState}
use Rattle.gixobj_grammar.specs.Lines.{NeedsAllocation}
use Rattle.gixobj_tokens.specs.CommitTokens.{BeginsWithCommitToken, CommitTokenView, commit_token_view}
use Rattle.gixobj_tokens.specs.CommitTokens.CommitTokenView.{tree_token, parent_token, author_token, committer_token}
use Rattle.gixobj_tokens.specs.CommitTokens.CommitTokenView.{encoding_token, header_token, message_token}
use Rattle.gixobj_tokens.specs.declared.commit.CommitRefIter.{CommitRefIter}
use Rattle.gixobj_grammar.specs.declared.lines.State.{State}
use Rattle.gixobj_grammar.specs.declared.lines.State.TheVariants as state
use Rattle.gixobj_tokens.specs.declared.commit.Token.{Token}
use Rattle.gixobj_tokens.specs.declared.commit.Token.TheVariants as token
use Rattle.gixobj_parse.specs.HeaderReading.{BorrowsOneLine}

-- ---- one token

-- the kind of ids, the state and the remaining bytes of an iterator
abbrev pub commit_reader_state : CommitRefIter → ReaderState Kind State
commit_reader_state reader = record { kind = reader.hash_kind; state = reader.state; bytes = reader.bytes.now }

-- the iterator is at the start of these bytes, before the tree, with ids of this kind
abbrev pub IsAtStartOfCommit : Kind → List ℕ → CommitRefIter → Type 0
IsAtStartOfCommit kind content reader =
    commit_reader_state reader ≡ record { kind = kind; state = state.Tree; bytes = content }

-- at most as many tokens remain as bytes
abbrev pub remaining_commit_token_count : CommitRefIter → Count
remaining_commit_token_count reader = at_most (length (commit_reader_state reader).bytes)

-- a header value of one line is borrowed, a value of several lines is owned
abbrev pub BorrowsValue : Token → Type 0
BorrowsValue (token.ExtraHeader header) = BorrowsOneLine header.1
BorrowsValue _ = ⊤

-- one step: the next token; an error, after which no bytes remain; or none, without bytes
abbrev pub NextCommitToken : CommitRefIter → Option (Result Token Error) → CommitRefIter → Type 0
NextCommitToken =
    NextPiece commit_reader_state BeginsWithCommitToken (λ kind. NeedsAllocation) commit_token_view BorrowsValue

-- ---- ids of tokens

-- the id of a tree or a parent, or none for another token
abbrev pub commit_token_id : CommitTokenView → Option ObjectId
commit_token_id (tree_token id) = Some id
commit_token_id (parent_token id) = Some id
commit_token_id (author_token actor) = None
commit_token_id (committer_token actor) = None
commit_token_id (encoding_token encoding) = None
commit_token_id (header_token header) = None
commit_token_id (message_token message) = None

-- the id of a commit's token, or `Malformed` without one
abbrev pub commit_id_or_malformed : Option ObjectId → Result ObjectId Error
commit_id_or_malformed (Some id) = Ok id
commit_id_or_malformed None = Err Malformed

-- the id of a yielded token, or the yielded error, or `Malformed` at the end
abbrev pub answered_commit_id : Option (Result Token Error) → Result ObjectId Error
answered_commit_id (Some (Ok token)) = commit_id_or_malformed (commit_token_id (commit_token_view token))
answered_commit_id (Some (Err error)) = Err error
answered_commit_id None = Err Malformed

-- one step, and the id of its token
abbrev pub NextIdOfCommit : CommitRefIter → Result ObjectId Error → CommitRefIter → Type 0
NextIdOfCommit before result after = (answer : Option (Result Token Error)) × NextCommitToken before answer after
    × (result ≡ answered_commit_id answer)
