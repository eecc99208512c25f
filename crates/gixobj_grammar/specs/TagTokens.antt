-- The tokens of a tag (gitdatamodel, "tag objects").
use Rattle.std.specs.Prelude.{◌≡◌, ◌≢◌, ℕ, List, [], Option, Some, None, codes}
use Rattle.bstr.specs.BStr.{bstr_bytes}
use Rattle.gixobj_actor.specs.Actor.{ActorView, IsActorLineOf, actor_view}
use Rattle.gixobj_parse.specs.HeaderReading.{BeginsWithIdField}
use Rattle.gixobj_hash.specs.HeaderFormat.{BeginsWithField, BeginsWithOtherName}
use Rattle.gixobj_hash.specs.Hash.{DecodesToId}
use Rattle.gixobj_hash.specs.Kind.{kind_name}
use Rattle.gixobj_hash.specs.declared.hash.kind.Kind as hash
use Rattle.gixobj_hash.specs.declared.hash.object_id.ObjectId.{ObjectId}
use Rattle.gixobj_hash.specs.declared.kind.Kind.{Kind}
use Rattle.gixobj_grammar.specs.TagLines.{BeginsWithTagName}
use Rattle.gixobj_grammar.specs.TagBodies.{IsBody}
use Rattle.gixobj_grammar.specs.declared.tokens.State.{State}
use Rattle.gixobj_grammar.specs.declared.tokens.State.TheVariants as state
use Rattle.gixobj_grammar.specs.declared.tokens.Token.{Token}
use Rattle.gixobj_grammar.specs.declared.tokens.Token.TheVariants as token
use Rattle.gixobj_hash.specs.Optional.{bytes_if_some}

-- a token: an id, a kind, a name, the parts of a tagger or its absence, a body
pub data TagTokenView : Type 0 where
  target_token : ObjectId → TagTokenView
  kind_token : Kind → TagTokenView
  name_token : List ℕ → TagTokenView
  tagger_token : ActorView → TagTokenView
  no_tagger_token : TagTokenView
  body_token : List ℕ → Option (List ℕ) → TagTokenView

-- a token as contracts see it: its id, its kind, the parts of its tagger, or its bytes
abbrev pub tag_token_view : Token → TagTokenView
tag_token_view (token.Target id) = target_token id
tag_token_view (token.TargetKind kind) = kind_token kind
tag_token_view (token.Name name) = name_token (bstr_bytes name)
tag_token_view (token.Tagger (Some actor)) = tagger_token (actor_view actor)
tag_token_view (token.Tagger None) = no_tagger_token
tag_token_view (token.Body message signature) = body_token (bstr_bytes message) (bytes_if_some signature)

-- the id of a target, or none for another token
abbrev pub tag_token_id : TagTokenView → Option ObjectId
tag_token_id (target_token id) = Some id
tag_token_id (kind_token kind) = None
tag_token_id (name_token name) = None
tag_token_id (tagger_token actor) = None
tag_token_id no_tagger_token = None
tag_token_id (body_token message signature) = None

-- in this state the input begins with this token, and the rest follows in the state after it
pub data BeginsWithTagToken (kind : hash.Kind) : State → List ℕ → TagTokenView → State → List ℕ → Type 0 where
  target_comes : (input hex rest : List ℕ) (id : ObjectId) → BeginsWithIdField (codes "object") kind input hex rest
      → DecodesToId hex id → BeginsWithTagToken kind state.Target input (target_token id) state.TargetKind rest
  kind_comes : (input rest : List ℕ) (of : Kind) → BeginsWithField (codes "type") input (kind_name of) rest
      → BeginsWithTagToken kind state.TargetKind input (kind_token of) state.Name rest
  name_comes : (input name rest : List ℕ) → BeginsWithTagName input name rest
      → BeginsWithTagToken kind state.Name input (name_token name) state.Tagger rest
  tagger_comes : (input line rest : List ℕ) (actor : ActorView) (after : List ℕ)
      → BeginsWithField (codes "tagger") input line rest → IsActorLineOf line actor after
      → BeginsWithTagToken kind state.Tagger input (tagger_token actor) state.Body rest
  no_tagger_comes : (input : List ℕ) → input ≢ [] → BeginsWithOtherName (codes "tagger") input
      → BeginsWithTagToken kind state.Tagger input no_tagger_token state.Body input
  body_comes : (input message : List ℕ) (signature : Option (List ℕ)) → input ≢ [] → IsBody input message signature
      → BeginsWithTagToken kind state.Body input (body_token message signature) state.End []

-- the token of this tagger line, which is the actor with which its value begins; or the token of its absence
pub data IsTokenOfTagger : Option (List ℕ) → TagTokenView → Type 0 where
  yields_tagger : (line : List ℕ) (actor : ActorView) (rest : List ℕ) → IsActorLineOf line actor rest
      → IsTokenOfTagger (Some line) (tagger_token actor)
  yields_no_tagger : IsTokenOfTagger None no_tagger_token

-- the bytes are the encoding of this token alone; the absence of a tagger has no bytes
abbrev pub DecodesToTagToken : hash.Kind → TagTokenView → List ℕ → Type 0
DecodesToTagToken kind no_tagger_token bytes = bytes ≡ []
DecodesToTagToken kind token bytes =
    (before : State) × (after : State) × BeginsWithTagToken kind before bytes token after []
