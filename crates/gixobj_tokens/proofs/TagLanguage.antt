-- States that the token iterator over tags and the decoder of entire tags accept the same language; the law
-- `tag_readers_agree` and `TagsFound` use it.
use Rattle.std.proofs.Common.{◌≡◌, ◌≢◌, ℕ, List, [], ◌∷◌, ◌++◌, Option, Some, None, ap, refl, subst, sym}
use Rattle.std.specs.Prelude.{codes}
use Rattle.gixobj_actor.specs.Actor.{ActorView, IsActorLineOf}
use Rattle.gixobj_parse.proofs.HeaderFields.{is_id_hex_of_decoded}
use Rattle.gixobj_parse.specs.HeaderReading.{BeginsWithIdField}
use Rattle.gixobj_hash.specs.HeaderFormat.{BeginsWithField}
use Rattle.gixobj_hash.specs.Runs.{complete, yields_end, yields_piece}
use Rattle.gixobj_hash.proofs.HexIds.{decoded_id_decodes}
use Rattle.gixobj_hash.specs.Hash.{DecodesToId}
use Rattle.gixobj_hash.specs.Hash.Hex.{decoded_id}
use Rattle.gixobj_hash.specs.Kind.{kind_name}
use Rattle.gixobj_hash.specs.declared.hash.kind.Kind as hash
use Rattle.gixobj_hash.specs.declared.hash.object_id.ObjectId.{ObjectId}
use Rattle.gixobj_hash.specs.declared.kind.Kind.{Kind}
use Rattle.gixobj_tag.proofs.Bodies.{body_unique}
use Rattle.gixobj_tag.proofs.EntireTags.{Reads, decodes_tag_of_parts, parts_of_decoded_tag}
use Rattle.gixobj_grammar.specs.TagLines.{BeginsWithTagName, BeginsWithTagger}
use Rattle.gixobj_tokens.specs.TagReaders.{AreTokensOfTag, IsOptionalToken, IsAfterName, misses_body, misses_nothing, misses_tagger_and_body}
use Rattle.gixobj_grammar.specs.TagTokens.{IsTokenOfTagger, yields_no_tagger, yields_tagger, TagTokenView, body_comes, body_token, kind_comes, kind_token}
use Rattle.gixobj_grammar.specs.TagTokens.{name_comes, name_token, no_tagger_comes, no_tagger_token, tagger_comes, tagger_token, target_comes, target_token}
use Rattle.gixobj_tag.specs.TagFormat.{DecodesToTag, TagLines}
use Rattle.gixobj_grammar.specs.TagBodies.{IsBody, newlines_alone}
use Rattle.gixobj_tokens.specs.TagTokenSteps.{YieldsTagTokens}
use Rattle.gixobj_grammar.specs.declared.tokens.State.{State}
use Rattle.gixobj_grammar.specs.declared.tokens.State.TheVariants as state

-- the tokens from the tagger on, and those that are missing at the end
record TailYielded (kind : hash.Kind) (before : State) (input : List ℕ) (all : List TagTokenView) : Type 0 where
  tokens : List TagTokenView
  missing : List TagTokenView
  yielded : YieldsTagTokens kind before input tokens complete
  may : IsOptionalToken missing
  joined : tokens ++ missing ≡ all

-- ---- the tokens of a body

body_token_of_nil : (message : List ℕ) (signature : Option (List ℕ)) → IsBody [] message signature → body_token message signature ≡ body_token [] None
body_token_of_nil message signature is = let same = body_unique [] message [] signature None is (newlines_alone [] refl) in cc (same.0, same.1)

tail_yielded_of_body : (kind : hash.Kind) (body message : List ℕ) (signature : Option (List ℕ)) → IsBody body message signature
    → TailYielded kind state.Body body (body_token message signature ∷ [])
tail_yielded_of_body kind [] message signature is =
    record {
      tokens = [];
      missing = body_token [] None ∷ [];
      yielded = yields_end state.Body;
      may = misses_body;
      joined = ap (λ (it : TagTokenView). it ∷ [])
          (sym (body_token_of_nil message signature is));
    }
tail_yielded_of_body kind (byte ∷ body) message signature is =
    record {
      tokens = body_token message signature ∷ [];
      missing = [];
      yielded = yields_piece state.Body state.End (byte ∷ body) [] (body_token message signature) [] complete
          (body_comes (byte ∷ body) message signature (λ bare. cc bare) is) (yields_end state.End);
      may = misses_nothing;
      joined = refl;
    }

-- ---- the tokens of a tagger and a body

tail_yielded_of_tagger_line : (kind : hash.Kind) (input line rest message : List ℕ) (signature : Option (List ℕ)) (actor : ActorView) (bytes : List ℕ)
    → BeginsWithField (codes "tagger") input line rest → IsActorLineOf line actor bytes
    → TailYielded kind state.Body rest (body_token message signature ∷ [])
    → TailYielded kind state.Tagger input (tagger_token actor ∷ body_token message signature ∷ [])
tail_yielded_of_tagger_line kind input line rest message signature actor bytes field is tail =
    record {
      tokens = tagger_token actor ∷ tail.tokens;
      missing = tail.missing;
      yielded = yields_piece state.Tagger state.Body input rest (tagger_token actor) tail.tokens complete
          (tagger_comes input line rest actor bytes field is)
          tail.yielded;
      may = tail.may;
      joined = ap (λ (it : List TagTokenView). tagger_token actor ∷ it) tail.joined;
    }

tail_yielded_of_untagged_body : (kind : hash.Kind) (body message : List ℕ) (signature : Option (List ℕ)) → BeginsWithTagger body None body
    → IsBody body message signature
    → TailYielded kind state.Tagger body (no_tagger_token ∷ body_token message signature ∷ [])
tail_yielded_of_untagged_body kind [] message signature has is =
    record {
      tokens = [];
      missing = no_tagger_token ∷ body_token [] None ∷ [];
      yielded = yields_end state.Tagger;
      may = misses_tagger_and_body;
      joined = ap (λ (it : TagTokenView). no_tagger_token ∷ it ∷ []) (sym (body_token_of_nil message signature is));
    }
tail_yielded_of_untagged_body kind (byte ∷ body) message signature has is =
    let filled : byte ∷ body ≢ [] = λ bare. cc bare in
    record {
      tokens = no_tagger_token ∷ body_token message signature ∷ [];
      missing = [];
      yielded = yields_piece state.Tagger state.Body (byte ∷ body) (byte ∷ body) no_tagger_token (body_token message signature ∷ []) complete
          (no_tagger_comes (byte ∷ body) filled has.0)
          (yields_piece state.Body state.End (byte ∷ body) [] (body_token message signature) [] complete
          (body_comes (byte ∷ body) message signature filled is)
          (yields_end state.End));
      may = misses_nothing;
      joined = refl;
    }

-- the token of the tagger, and the tokens from there on
record TaggerYielded (kind : hash.Kind) (input : List ℕ) (line : Option (List ℕ)) (message : List ℕ) (signature : Option (List ℕ)) : Type 0 where
  token : TagTokenView
  yields : IsTokenOfTagger line token
  tail : TailYielded kind state.Tagger input (token ∷ body_token message signature ∷ [])

tagger_yielded_of_body : (kind : hash.Kind) (input : List ℕ) (line : Option (List ℕ)) (body message : List ℕ) (signature : Option (List ℕ))
    → BeginsWithTagger input line body
    → IsBody body message signature → TaggerYielded kind input line message signature
tagger_yielded_of_body kind input None body message signature (lacks, same) is =
    let has : BeginsWithTagger body None body = (subst (λ (it : List ℕ). BeginsWithTagger it None body) (sym same) (lacks, same)) in
    let yields_decoded = tail_yielded_of_untagged_body kind body message signature has is in
    record {
      token = no_tagger_token;
      yields = yields_no_tagger;
      tail = subst
          (λ (it : List ℕ). TailYielded kind state.Tagger it (no_tagger_token ∷ body_token message signature ∷ [])) same yields_decoded;
    }
tagger_yielded_of_body kind input (Some line) body message signature (field, (name, email, time, bytes, named)) is =
    let actor : ActorView = record { name = name; email = email; time = time } in
    record {
      token = tagger_token actor;
      yields = yields_tagger line actor bytes named;
      tail = tail_yielded_of_tagger_line kind input line body message signature actor bytes field named (tail_yielded_of_body kind body message signature is);
    }

-- ---- the law: a tag yields its tokens

pub yields_tokens_of_tag : (kind : hash.Kind) (content : List ℕ) (tag : TagLines) → DecodesToTag kind content tag → (tokens : List TagTokenView)
    × YieldsTagTokens kind state.Target content tokens complete × AreTokensOfTag tag tokens × IsAfterName tokens
yields_tokens_of_tag kind content tag is =
    let reads = parts_of_decoded_tag kind content tag is in
    let spells = decoded_id_decodes tag.target (is_id_hex_of_decoded kind tag.target reads.target.1) in
    let id = decoded_id tag.target in
    let it = tagger_yielded_of_body kind reads.after_name tag.tagger reads.body tag.message tag.signature reads.tagger reads.parted in
    let tail = it.tail in
    let named = yields_piece state.Name state.Tagger reads.after_kind reads.after_name (name_token tag.name) tail.tokens complete
    (name_comes reads.after_kind tag.name reads.after_name reads.name) tail.yielded in
    let typed = yields_piece state.TargetKind state.Name reads.after_target reads.after_kind (kind_token tag.target_kind) _ complete
    (kind_comes reads.after_target reads.after_kind tag.target_kind reads.target_kind) named in
    let all = yields_piece state.Target state.TargetKind content reads.after_target (target_token id) _ complete
    (target_comes content tag.target reads.after_target id reads.target spells) typed in
    let joined = ap (λ (it : List TagTokenView). target_token id ∷ kind_token tag.target_kind ∷ name_token tag.name ∷ it) tail.joined in
    (_, all, (tail.missing, tail.may, record { id = id; tagger = it.token; hex_of_id = spells; yielded = it.yields; joined = joined }), tt)

-- ---- the law: tokens decode to a tag

-- the parts that a run from the tagger on has yielded
record Tail (input : List ℕ) (tokens : List TagTokenView) : Type 0 where
  line : Option (List ℕ)
  body : List ℕ
  message : List ℕ
  signature : Option (List ℕ)
  token : TagTokenView
  missing : List TagTokenView
  has : BeginsWithTagger input line body
  parted : IsBody body message signature
  yields : IsTokenOfTagger line token
  may : IsOptionalToken missing
  joined : tokens ++ missing ≡ token ∷ body_token message signature ∷ []

-- no token follows the body
no_tokens_at_end : (kind : hash.Kind) (tokens : List TagTokenView) → YieldsTagTokens kind state.End [] tokens complete → tokens ≡ []
no_tokens_at_end kind tokens (yields_end _) = refl
no_tokens_at_end kind _ (yields_piece _ following _ rest piece pieces _ has _) = elim has [ ]

tail_of_tagger_and_body_tokens : (kind : hash.Kind) (input : List ℕ) (line : Option (List ℕ)) (body : List ℕ)
    (token : TagTokenView) (tokens : List TagTokenView)
    → BeginsWithTagger input line body → IsTokenOfTagger line token → YieldsTagTokens kind state.Body body tokens complete
    → Tail input (token ∷ tokens)
tail_of_tagger_and_body_tokens kind input line body token tokens has determines (yields_end _) =
    record {
      line = line;
      body = [];
      message = [];
      signature = None;
      token = token;
      missing = body_token [] None ∷ [];
      has = has;
      parted = newlines_alone
          [] refl;
      yields = determines;
      may = misses_body;
      joined = refl;
    }
tail_of_tagger_and_body_tokens kind input line body token tokens has determines
    (yields_piece _ _ _ _ _ others _ (body_comes _ message signature filled is) yields_decoded) =
    let none = no_tokens_at_end kind others yields_decoded in
    record {
      line = line;
      body = body;
      message = message;
      signature = signature;
      token = token;
      missing = [];
      has = has;
      parted = is;
      yields = determines;
      may = misses_nothing;
      joined = ap (λ (it : List TagTokenView). token ∷ body_token message signature ∷ (it ++ [])) none;
    }

nil_ne_tagger_field : (rest : List ℕ) → [] ≢ codes "tagger" ++ 32 ∷ rest
nil_ne_tagger_field rest same = cc same

tail_of_tokens : (kind : hash.Kind) (input : List ℕ) (tokens : List TagTokenView) → YieldsTagTokens kind state.Tagger input tokens complete
    → Tail input tokens
tail_of_tokens kind input tokens (yields_end _) =
    record {
      line = None;
      body = [];
      message = [];
      signature = None;
      token = no_tagger_token;
      missing = no_tagger_token ∷ body_token [] None ∷ [];
      has = (nil_ne_tagger_field, refl);
      parted = newlines_alone [] refl;
      yields = yields_no_tagger;
      may = misses_tagger_and_body;
      joined = refl;
    }
tail_of_tokens kind input tokens (yields_piece _ _ _ rest _ others _ (tagger_comes _ line _ actor bytes field is) yields_decoded) =
    tail_of_tagger_and_body_tokens kind input (Some line) rest (tagger_token actor) others (field, (actor.name, actor.email, actor.time, bytes, is))
    (yields_tagger line actor bytes is) yields_decoded
tail_of_tokens kind input tokens (yields_piece _ _ _ _ _ others _ (no_tagger_comes _ filled lacks) yields_decoded) =
    tail_of_tagger_and_body_tokens kind input None input no_tagger_token others (lacks, refl) yields_no_tagger yields_decoded

-- these bytes are the encoding of a tag with these tokens
abbrev Found : hash.Kind → List ℕ → List TagTokenView → Type 0
Found kind content tokens = (tag : TagLines) × DecodesToTag kind content tag × AreTokensOfTag tag tokens

found_of_tail : (kind : hash.Kind) (content hex after following name rest : List ℕ) (id : ObjectId) (of : Kind) (tokens : List TagTokenView)
    → BeginsWithIdField (codes "object") kind content hex after → DecodesToId hex id → BeginsWithField (codes "type") after (kind_name of) following
    → BeginsWithTagName following name rest → Tail rest tokens → Found kind content (target_token id ∷ kind_token of ∷ name_token name ∷ tokens)
found_of_tail kind content hex after following name rest id of tokens has spells field named tail =
    let tag : TagLines = record {
      target = hex;
      target_kind = of;
      name = name;
      tagger = tail.line;
      message = tail.message;
      signature = tail.signature;
    } in
    let reads : Reads kind content tag =
    record {
      after_target = after;
      after_kind = following;
      after_name = rest;
      body = tail.body;
      target = has;
      target_kind = field;
      name = named;
      tagger = tail.has;
      parted = tail.parted;
    } in
    let joined = ap (λ (it : List TagTokenView). target_token id ∷ kind_token of ∷ name_token name ∷ it) tail.joined in (
      tag,
      decodes_tag_of_parts kind content tag reads,
      (tail.missing, tail.may, record { id = id; tagger = tail.token; hex_of_id = spells; yielded = tail.yields; joined = joined }),
    )

found_of_name_tokens : (kind : hash.Kind) (content hex after input : List ℕ) (id : ObjectId) (of : Kind) (tokens : List TagTokenView)
    → BeginsWithIdField (codes "object") kind content hex after → DecodesToId hex id → BeginsWithField (codes "type") after (kind_name of) input
    → YieldsTagTokens kind state.Name input tokens complete → IsAfterName tokens → Found kind content (target_token id ∷ kind_token of ∷ tokens)
found_of_name_tokens kind content hex after input id of tokens has spells field (yields_end _) came = absurd came
found_of_name_tokens kind content hex after input id of tokens has spells field (yields_piece _ _ _ rest _ others _ (name_comes _ name _ named) yields_decoded)
    came =
    found_of_tail kind content hex after input name rest id of others has spells field named (tail_of_tokens kind rest others yields_decoded)

found_of_kind_tokens : (kind : hash.Kind) (content hex input : List ℕ) (id : ObjectId) (tokens : List TagTokenView)
    → BeginsWithIdField (codes "object") kind content hex input
    → DecodesToId hex id → YieldsTagTokens kind state.TargetKind input tokens complete → IsAfterName tokens
    → Found kind content (target_token id ∷ tokens)
found_of_kind_tokens kind content hex input id tokens has spells (yields_end _) came = absurd came
found_of_kind_tokens kind content hex input id tokens has spells (yields_piece _ _ _ rest _ others _ (kind_comes _ _ of field) yields_decoded) came =
    found_of_name_tokens kind content hex input rest id of others has spells field yields_decoded came

pub tag_of_tokens_exists : (kind : hash.Kind) (content : List ℕ) (tokens : List TagTokenView) → YieldsTagTokens kind state.Target content tokens complete
    → IsAfterName tokens
    → (tag : TagLines) × DecodesToTag kind content tag × AreTokensOfTag tag tokens
tag_of_tokens_exists kind content tokens (yields_end _) came = absurd came
tag_of_tokens_exists kind content tokens (yields_piece _ _ _ rest _ others _ (target_comes _ hex _ id has spells) yields_decoded) came =
    found_of_kind_tokens kind content hex rest id others has spells yields_decoded came
