-- Runs of tokens of a commit, and searches for a token.
use Rattle.std.proofs.Common.{◌≡◌, ◌<◌, ◌≤◌, ℕ, List, arith, length}
use Rattle.std.specs.Prelude.{Some, None, Result, Ok, Err}
use Rattle.gixobj_parse.proofs.Readers as readers
use Rattle.gixobj_hash.proofs.Runs as runs
use Rattle.gixobj_hash.specs.Runs.{Ending, complete}
use Rattle.gixobj_hash.specs.declared.decode.Error.{Error}
use Rattle.gixobj_hash.specs.declared.hash.kind.Kind.{Kind}
use Rattle.gixobj_grammar.proofs.OneLine.{line_len_lt}
use Rattle.gixobj_grammar.specs.Lines.{NeedsAllocation}
use Rattle.gixobj_grammar.specs.declared.lines.State.{State}
use Rattle.gixobj_tokens.proofs.CommitTokens.{no_commit_token_of_nil, commit_token_unique, commit_token_bytes_exist}
use Rattle.gixobj_tokens.specs.CommitRuns.{YieldsCommitTokens}
use Rattle.gixobj_tokens.specs.CommitTokens.{CommitTokenView, BeginsWithCommitToken, DecodesToCommitToken, commit_token_view}
use Rattle.gixobj_tokens.specs.TokenFilters.{ReadsFirstToken, ReadsNoToken}
use Rattle.gixobj_tokens.specs.CommitTokenSteps.{BorrowsValue, NextCommitToken, commit_reader_state}
use Rattle.gixobj_tokens.specs.TokenSearch.{DecodesToCommitTokens, EndsSearch, first_token, no_token, optional_error, required_error}
use Rattle.gixobj_tokens.specs.declared.commit.CommitRefIter.{CommitRefIter}
use Rattle.gixobj_tokens.specs.declared.commit.Token.{Token}

pub token_run_unique : (kind : Kind) (before : State) (input : List ℕ) (a b : List CommitTokenView) (e f : Ending) → YieldsCommitTokens kind before input a e
    → YieldsCommitTokens kind before input b f → (a ≡ b) × (e ≡ f)
token_run_unique kind = runs.one_run (BeginsWithCommitToken kind) (commit_token_unique kind) (no_commit_token_of_nil kind)

pub decodes_tokens_of_run : (kind : Kind) (before : State) (input : List ℕ) (tokens : List CommitTokenView)
    → YieldsCommitTokens kind before input tokens complete
    → DecodesToCommitTokens kind input tokens
decodes_tokens_of_run kind = runs.run_encodings (BeginsWithCommitToken kind) (DecodesToCommitToken kind) (commit_token_bytes_exist kind)

-- ---- searches

pub token_len_lt : (kind : Kind) (before : State) (input : List ℕ) (token : CommitTokenView) (following : State) (rest : List ℕ)
    → BeginsWithCommitToken kind before input token following rest → length rest < length input
token_len_lt kind before input token following rest (line, has, yields) = line_len_lt kind before input line following rest has

pub remaining_len_le : (kind : Kind) (before : State) (input : List ℕ) (token : CommitTokenView) (following : State) (rest : List ℕ)
    → BeginsWithCommitToken kind before input token following rest → length rest ≤ length input
remaining_len_le kind before input token following rest has = let less = token_len_lt kind before input token following rest has in omega (arith, less)

-- the second iterator is the first one after tokens without the property
abbrev pub Searches : (CommitTokenView → Type 0) → CommitRefIter → CommitRefIter → Type 0
Searches = readers.SearchInvariant commit_reader_state BeginsWithCommitToken (λ kind. NeedsAllocation) commit_token_view BorrowsValue remaining_len_le

pub searches_nil : (Is : CommitTokenView → Type 0) (reader : CommitRefIter) → Searches Is reader reader
searches_nil = readers.search_start commit_reader_state BeginsWithCommitToken (λ kind. NeedsAllocation) commit_token_view BorrowsValue remaining_len_le

pub searches_snoc : (Is : CommitTokenView → Type 0) (reader at after : CommitRefIter) (item : Result Token Error) (token : Token) → Searches Is reader at
    → NextCommitToken at (Some item) after → item ≡ Ok token
    → ¬ Is (commit_token_view token) → Searches Is reader after
searches_snoc = readers.search_on commit_reader_state BeginsWithCommitToken (λ kind. NeedsAllocation) commit_token_view BorrowsValue remaining_len_le

pub ends_search_at_first : (Is : CommitTokenView → Type 0) (reader at after : CommitRefIter) (item : Result Token Error) (token : Token) → Searches Is reader at
    → NextCommitToken at (Some item) after → item ≡ Ok token → EndsSearch Is reader (first_token (commit_token_view token))
ends_search_at_first = readers.search_first commit_reader_state BeginsWithCommitToken (λ kind. NeedsAllocation) commit_token_view BorrowsValue remaining_len_le

pub ends_search_at_optional_error : (Is : CommitTokenView → Type 0) (reader at after : CommitRefIter) (item : Result Token Error) (consumed error : Error)
    → consumed ≡ error
    → Searches Is reader at → NextCommitToken at (Some item) after → item ≡ Err error → EndsSearch Is reader (optional_error consumed)
ends_search_at_optional_error = readers.search_faults commit_reader_state BeginsWithCommitToken
    (λ kind. NeedsAllocation) commit_token_view BorrowsValue remaining_len_le

pub ends_search_at_required_error : (Is : CommitTokenView → Type 0) (reader at after : CommitRefIter) (item : Result Token Error) (consumed error : Error)
    → consumed ≡ error
    → Searches Is reader at → NextCommitToken at (Some item) after → item ≡ Err error → EndsSearch Is reader (required_error consumed)
ends_search_at_required_error = readers.search_errors commit_reader_state BeginsWithCommitToken
    (λ kind. NeedsAllocation) commit_token_view BorrowsValue remaining_len_le

pub ends_search_at_end : (Is : CommitTokenView → Type 0) (reader at after : CommitRefIter) → Searches Is reader at → NextCommitToken at None after
    → EndsSearch Is reader (no_token complete)
ends_search_at_end = readers.search_ends commit_reader_state BeginsWithCommitToken (λ kind. NeedsAllocation) commit_token_view BorrowsValue remaining_len_le

pub reads_first_token_of_search : (Is This : CommitTokenView → Type 0) (reader at after : CommitRefIter) (item : Result Token Error) (token : Token)
    → Searches Is reader at
    → NextCommitToken at (Some item) after → item ≡ Ok token → This (commit_token_view token)
    → ReadsFirstToken Is This reader after
reads_first_token_of_search = readers.reads_first commit_reader_state BeginsWithCommitToken
    (λ kind. NeedsAllocation) commit_token_view BorrowsValue remaining_len_le

pub reads_no_token_of_error : (Is : CommitTokenView → Type 0) (reader at after : CommitRefIter) (item : Result Token Error) (error : Error)
    → Searches Is reader at
    → NextCommitToken at (Some item) after → item ≡ Err error → ReadsNoToken Is reader after
reads_no_token_of_error = readers.reads_error commit_reader_state BeginsWithCommitToken
    (λ kind. NeedsAllocation) commit_token_view BorrowsValue remaining_len_le

pub reads_no_token_at_end : (Is : CommitTokenView → Type 0) (reader at after : CommitRefIter) → Searches Is reader at → NextCommitToken at None after
    → ReadsNoToken Is reader after
reads_no_token_at_end = readers.reads_end commit_reader_state BeginsWithCommitToken (λ kind. NeedsAllocation) commit_token_view BorrowsValue remaining_len_le
