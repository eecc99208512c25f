-- Runs of tokens of a tag, and searches for a token.
use Rattle.std.proofs.Common.{◌≡◌, ℕ, List, refl}
use Rattle.std.specs.Prelude.{Option, Some, None, Result, Ok, Err, ⊤}
use Rattle.gixobj_parse.proofs.Readers as readers
use Rattle.gixobj_hash.proofs.Runs as runs
use Rattle.gixobj_parse.specs.Iterators.{FindsFirst, IsRequiredSearchError, YieldsNone}
use Rattle.gixobj_hash.specs.Runs.{Ending, complete}
use Rattle.gixobj_hash.specs.declared.decode.Error.{Error}
use Rattle.gixobj_hash.specs.declared.decode.Error.TheVariants.{Malformed, OutOfMemory}
use Rattle.gixobj_hash.specs.declared.hash.kind.Kind.{Kind}
use Rattle.gixobj_tokens.proofs.TagTokens.{remaining_len_le, no_tag_token_of_nil, tag_token_unique, tag_token_bytes_exist}
use Rattle.gixobj_grammar.specs.TagTokens.{BeginsWithTagToken, DecodesToTagToken, TagTokenView, tag_token_view}
use Rattle.gixobj_tokens.specs.TagTokenSteps.{DecodesToTagTokens, NextTagToken, IsTaggerToken, YieldsTagTokens, NoTokenAllocates, tag_reader_state}
use Rattle.gixobj_grammar.specs.declared.tokens.State.{State}
use Rattle.gixobj_tokens.specs.declared.tag.TagRefIter.{TagRefIter}
use Rattle.gixobj_grammar.specs.declared.tokens.Token.{Token}
use Rattle.gixobj_grammar.specs.declared.tokens.Token.TheVariants as token
use Rattle.gixobj_actor.specs.declared.actor.SignatureRef.{SignatureRef}

pub token_run_unique : (kind : Kind) (before : State) (input : List ℕ) (a b : List TagTokenView) (e f : Ending) → YieldsTagTokens kind before input a e
    → YieldsTagTokens kind before input b f → (a ≡ b) × (e ≡ f)
token_run_unique kind = runs.one_run (BeginsWithTagToken kind) (tag_token_unique kind) (no_tag_token_of_nil kind)

pub decodes_tokens_of_run : (kind : Kind) (before : State) (input : List ℕ) (tokens : List TagTokenView) → YieldsTagTokens kind before input tokens complete
    → DecodesToTagTokens kind input tokens
decodes_tokens_of_run kind = runs.run_encodings (BeginsWithTagToken kind) (DecodesToTagToken kind) (tag_token_bytes_exist kind)

-- ---- searches

-- every token is accepted
abbrev Every : Token → Type 0
Every token = ⊤

-- the second iterator is the first one after tokens without the property
abbrev pub Searches : (TagTokenView → Type 0) → TagRefIter → TagRefIter → Type 0
Searches = readers.SearchInvariant tag_reader_state BeginsWithTagToken NoTokenAllocates tag_token_view Every remaining_len_le

pub searches_nil : (Is : TagTokenView → Type 0) (reader : TagRefIter) → Searches Is reader reader
searches_nil = readers.search_start tag_reader_state BeginsWithTagToken NoTokenAllocates tag_token_view Every remaining_len_le

pub searches_snoc : (Is : TagTokenView → Type 0) (reader at after : TagRefIter) (item : Result Token Error) (token : Token) → Searches Is reader at
    → NextTagToken at (Some item) after → item ≡ Ok token
    → ¬ Is (tag_token_view token) → Searches Is reader after
searches_snoc = readers.search_on tag_reader_state BeginsWithTagToken NoTokenAllocates tag_token_view Every remaining_len_le

pub finds_first_at_token : (Is : TagTokenView → Type 0) (reader at after : TagRefIter) (item : Result Token Error) (token : Token) → Searches Is reader at
    → NextTagToken at (Some item) after → item ≡ Ok token
    → FindsFirst tag_reader_state BeginsWithTagToken Is reader (tag_token_view token)
finds_first_at_token = readers.search_first tag_reader_state BeginsWithTagToken NoTokenAllocates tag_token_view Every remaining_len_le

-- no token allocates
finds_none_is_malformed : (Is : TagTokenView → Type 0) (reader : TagRefIter) (error : Error)
    → IsRequiredSearchError tag_reader_state BeginsWithTagToken NoTokenAllocates Is reader error
    → (error ≡ Malformed) × ((ending : Ending) × YieldsNone tag_reader_state BeginsWithTagToken Is reader ending)
finds_none_is_malformed Is reader Malformed none = (refl, none)
finds_none_is_malformed Is reader OutOfMemory (before, input, begins_with, wants) = absurd wants

pub yields_none_at_error : (Is : TagTokenView → Type 0) (reader at after : TagRefIter) (item : Result Token Error) (consumed error : Error) → consumed ≡ error
    → Searches Is reader at → NextTagToken at (Some item) after → item ≡ Err error
    → (consumed ≡ Malformed) × ((ending : Ending) × YieldsNone tag_reader_state BeginsWithTagToken Is reader ending)
yields_none_at_error Is reader at after item consumed error same searches gives err =
    finds_none_is_malformed Is reader consumed
    (readers.search_errors tag_reader_state BeginsWithTagToken NoTokenAllocates tag_token_view Every remaining_len_le Is reader at after item consumed error
    same
    searches
    gives err)

pub yields_none_at_end : (Is : TagTokenView → Type 0) (reader at after : TagRefIter) → Searches Is reader at → NextTagToken at None after
    → YieldsNone tag_reader_state BeginsWithTagToken Is reader complete
yields_none_at_end = readers.search_ends tag_reader_state BeginsWithTagToken NoTokenAllocates tag_token_view Every remaining_len_le

pub is_not_tagger_token : (it : Token) → ((tagger : Option SignatureRef) → it ≡ token.Tagger tagger → ⊥) → ¬ IsTaggerToken (tag_token_view it)
is_not_tagger_token (token.Target id) other = λ is. is
is_not_tagger_token (token.TargetKind kind) other = λ is. is
is_not_tagger_token (token.Name name) other = λ is. is
is_not_tagger_token (token.Tagger (Some actor)) other = λ is. other (Some actor) refl
is_not_tagger_token (token.Tagger None) other = λ is. other None refl
is_not_tagger_token (token.Body message signature) other = λ is. is
