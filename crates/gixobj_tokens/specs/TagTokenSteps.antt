-- The steps, runs and searches of a token iterator over a tag (gitdatamodel, "tag objects").
use Rattle.std.specs.Prelude.{◌≡◌, ◌+◌, ℕ, List, Option, Some, None, Result, Ok, Err, length, ⊤}
use Rattle.std.specs.Iterator.{Count, at_most}
use Rattle.std.specs.List.{AllZip, concat}
use Rattle.gixobj_actor.specs.Actor.{actor_view}
use Rattle.gixobj_actor.specs.declared.actor.SignatureRef.{SignatureRef}
use Rattle.gixobj_parse.specs.Iterators as readers
use Rattle.gixobj_parse.specs.Iterators.{NextPiece, ReaderState}
use Rattle.gixobj_hash.specs.Runs as runs
use Rattle.gixobj_hash.specs.Runs.{Ending}
use Rattle.gixobj_hash.specs.declared.decode.Error.{Error}
use Rattle.gixobj_hash.specs.declared.decode.Error.TheVariants.{Malformed}
use Rattle.gixobj_hash.specs.declared.hash.kind.Kind.{Kind}
use Rattle.gixobj_hash.specs.declared.hash.object_id.ObjectId.{ObjectId}
use Rattle.gixobj_grammar.specs.TagTokens.{BeginsWithTagToken, DecodesToTagToken, TagTokenView, no_tagger_token}
use Rattle.gixobj_grammar.specs.TagTokens.{tagger_token, tag_token_id, tag_token_view}
use Rattle.gixobj_grammar.specs.declared.tokens.State.{State}
use Rattle.gixobj_grammar.specs.declared.tokens.State.TheVariants as state
use Rattle.gixobj_grammar.specs.declared.tokens.Token.{Token}
use Rattle.gixobj_tokens.specs.declared.tag.TagRefIter.{TagRefIter}

-- ---- one token

-- the kind of ids, the state and the remaining bytes of an iterator
abbrev pub tag_reader_state : TagRefIter → ReaderState Kind State
tag_reader_state reader = record { kind = reader.hash_kind; state = reader.state; bytes = reader.bytes.now }

-- the iterator is at the start of these bytes, before the target, with ids of this kind
abbrev pub IsAtStartOfTag : Kind → List ℕ → TagRefIter → Type 0
IsAtStartOfTag kind content reader =
    tag_reader_state reader ≡ record { kind = kind; state = state.Target; bytes = content }

-- the number of states after this one
abbrev pub remaining_states : State → ℕ
remaining_states state.Target = 5
remaining_states state.TargetKind = 4
remaining_states state.Name = 3
remaining_states state.Tagger = 2
remaining_states state.Body = 1
remaining_states state.End = 0

-- at most as many tokens remain as bytes and states
abbrev pub remaining_tag_token_count : TagRefIter → Count
remaining_tag_token_count reader =
    at_most (length (tag_reader_state reader).bytes + remaining_states (tag_reader_state reader).state)

-- no token allocates
abbrev pub NoTokenAllocates : Kind → State → List ℕ → Type 0
NoTokenAllocates kind before input = ⊥

-- one step: the next token; an error, after which no bytes remain; or none, without bytes
abbrev pub NextTagToken : TagRefIter → Option (Result Token Error) → TagRefIter → Type 0
NextTagToken = NextPiece tag_reader_state BeginsWithTagToken NoTokenAllocates tag_token_view (λ token. ⊤)

-- ---- runs

-- the complete run from this state over this input yields these tokens, and has this ending
abbrev pub YieldsTagTokens : Kind → State → List ℕ → List TagTokenView → Ending → Type 0
YieldsTagTokens kind before input tokens ending = runs.Yields (BeginsWithTagToken kind) before input tokens ending

-- the iterator began before the target of these bytes, and has consumed these tokens
abbrev pub HasConsumedTagTokens : Kind → List ℕ → List TagTokenView → TagRefIter → Type 0
HasConsumedTagTokens kind content tokens reader =
    runs.BeginsWithPieces (BeginsWithTagToken kind) state.Target content tokens (tag_reader_state reader).state
    (tag_reader_state reader).bytes × ((tag_reader_state reader).kind ≡ kind)

-- the input is the concatenation of an encoding for each token
abbrev pub DecodesToTagTokens : Kind → List ℕ → List TagTokenView → Type 0
DecodesToTagTokens kind input tokens = (encodings : List (List ℕ)) × (input ≡ concat encodings)
    × AllZip (DecodesToTagToken kind) tokens encodings

-- ---- ids of tokens

-- the id of a tag's token, or `Malformed` without one
abbrev pub tag_id_or_malformed : Option ObjectId → Result ObjectId Error
tag_id_or_malformed (Some id) = Ok id
tag_id_or_malformed None = Err Malformed

-- the id of a yielded token, or the yielded error, or `Malformed` at the end
abbrev pub answered_tag_id : Option (Result Token Error) → Result ObjectId Error
answered_tag_id (Some (Ok token)) = tag_id_or_malformed (tag_token_id (tag_token_view token))
answered_tag_id (Some (Err error)) = Err error
answered_tag_id None = Err Malformed

-- one step, and the id of its token
abbrev pub NextIdOfTag : TagRefIter → Result ObjectId Error → Type 0
NextIdOfTag before result = (answer : Option (Result Token Error)) × (after : TagRefIter)
    × NextTagToken before answer after × (result ≡ answered_tag_id answer)

-- ---- the tagger

-- the token is a tagger, or the absence of one
abbrev pub IsTaggerToken : TagTokenView → Type 0
IsTaggerToken (tagger_token actor) = ⊤
IsTaggerToken no_tagger_token = ⊤
IsTaggerToken _ = ⊥

-- the token of this tagger, or of its absence
abbrev pub token_of_tagger : Option SignatureRef → TagTokenView
token_of_tagger (Some actor) = tagger_token (actor_view actor)
token_of_tagger None = no_tagger_token

-- the token of this tagger, or of its absence, follows tokens that are neither
abbrev pub FindsTagger : TagRefIter → Option SignatureRef → Type 0
FindsTagger reader tagger = readers.FindsFirst tag_reader_state BeginsWithTagToken IsTaggerToken reader
    (token_of_tagger tagger)

-- the complete run yields no tagger token, not even that of its absence, and has this ending
abbrev pub YieldsNoTagger : TagRefIter → Ending → Type 0
YieldsNoTagger = readers.YieldsNone tag_reader_state BeginsWithTagToken IsTaggerToken
