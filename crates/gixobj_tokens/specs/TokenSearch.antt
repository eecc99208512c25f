-- The tokens that a search in a commit consumes, and what it finds (gitdatamodel, "commits").
use Rattle.std.specs.Prelude.{◌≡◌, ◌⊎◌, ℕ, List, [], ⊤}
use Rattle.std.specs.List.{AllZip, concat}
use Rattle.gixobj_actor.specs.Actor.{ActorView}
use Rattle.gixobj_hash.specs.declared.decode.Error.{Error}
use Rattle.gixobj_hash.specs.declared.hash.kind.Kind.{Kind}
use Rattle.gixobj_parse.specs.Iterators as readers
use Rattle.gixobj_hash.specs.Runs as runs
use Rattle.gixobj_hash.specs.Runs.{Ending, complete}
use Rattle.gixobj_grammar.specs.Lines.{NeedsAllocation}
use Rattle.gixobj_grammar.specs.declared.lines.State.TheVariants as state
use Rattle.gixobj_tokens.specs.CommitTokens.{CommitTokenView, BeginsWithCommitToken, DecodesToCommitToken, author_token}
use Rattle.gixobj_tokens.specs.CommitTokens.{committer_token, message_token, parent_token}
use Rattle.gixobj_tokens.specs.CommitTokenSteps.{commit_reader_state}
use Rattle.gixobj_tokens.specs.declared.commit.CommitRefIter.{CommitRefIter}

-- the input is the concatenation of an encoding for each token
abbrev pub DecodesToCommitTokens : Kind → List ℕ → List CommitTokenView → Type 0
DecodesToCommitTokens kind input tokens = (encodings : List (List ℕ)) × (input ≡ concat encodings)
    × AllZip (DecodesToCommitToken kind) tokens encodings

-- the iterator began before the tree of these bytes, and has consumed these tokens
abbrev pub HasConsumedCommitTokens : Kind → List ℕ → List CommitTokenView → CommitRefIter → Type 0
HasConsumedCommitTokens kind content tokens reader =
    runs.BeginsWithPieces (BeginsWithCommitToken kind) state.Tree content tokens (commit_reader_state reader).state
    (commit_reader_state reader).bytes × ((commit_reader_state reader).kind ≡ kind)

-- the end of a search for a token: the first token, the ending of a run without one, or an error. The error is that of
-- a search that requires a token, or of one that may end without it
pub data SearchEnd : Type 0 where
  first_token : CommitTokenView → SearchEnd
  no_token : Ending → SearchEnd
  required_error : Error → SearchEnd
  optional_error : Error → SearchEnd

-- how a search for a token with this property ends. At the first token with it; or at the end of a run without one. The
-- error Malformed: of a required token, the run yields none; of an optional one, the run yields none and is broken. The
-- error OutOfMemory: after tokens without the property comes a header whose value allocates
abbrev pub EndsSearch : (CommitTokenView → Type 0) → CommitRefIter → SearchEnd → Type 0
EndsSearch Is reader (first_token token) = readers.FindsFirst commit_reader_state BeginsWithCommitToken Is reader token
EndsSearch Is reader (no_token ending) = readers.YieldsNone commit_reader_state BeginsWithCommitToken Is reader ending
EndsSearch Is reader (required_error error) =
    readers.IsRequiredSearchError commit_reader_state BeginsWithCommitToken (λ kind. NeedsAllocation) Is reader error
EndsSearch Is reader (optional_error error) =
    readers.IsOptionalSearchError commit_reader_state BeginsWithCommitToken (λ kind. NeedsAllocation) Is reader error

-- the token is a parent
abbrev pub IsParentToken : CommitTokenView → Type 0
IsParentToken (parent_token id) = ⊤
IsParentToken _ = ⊥

-- the token is an author
abbrev pub IsAuthorToken : CommitTokenView → Type 0
IsAuthorToken (author_token actor) = ⊤
IsAuthorToken _ = ⊥

-- the token is a committer
abbrev pub IsCommitterToken : CommitTokenView → Type 0
IsCommitterToken (committer_token actor) = ⊤
IsCommitterToken _ = ⊥

-- the token is an author or a committer
abbrev pub IsActorToken : CommitTokenView → Type 0
IsActorToken (author_token actor) = ⊤
IsActorToken (committer_token actor) = ⊤
IsActorToken _ = ⊥

-- the token is an author or a committer with these parts
abbrev pub IsActorTokenOf : ActorView → CommitTokenView → Type 0
IsActorTokenOf actor token = (token ≡ author_token actor) ⊎ (token ≡ committer_token actor)

-- the token is a message
abbrev pub IsMessageToken : CommitTokenView → Type 0
IsMessageToken (message_token message) = ⊤
IsMessageToken _ = ⊥

-- after tokens that are no author, this author follows
abbrev pub FindsAuthor : CommitRefIter → ActorView → Type 0
FindsAuthor reader actor = EndsSearch IsAuthorToken reader (first_token (author_token actor))

-- after tokens that are no committer, this committer follows
abbrev pub FindsCommitter : CommitRefIter → ActorView → Type 0
FindsCommitter reader actor = EndsSearch IsCommitterToken reader (first_token (committer_token actor))

-- after tokens that are no message, this message follows; or the bytes end, and the message is empty
abbrev pub FindsMessage : CommitRefIter → List ℕ → Type 0
FindsMessage reader message = EndsSearch IsMessageToken reader (first_token (message_token message))
    ⊎ (EndsSearch IsMessageToken reader (no_token complete) × (message ≡ []))
