-- States that an input begins with at most one token, and that each consumes bytes or a state, for the laws and
-- iterator on tags.
use Rattle.std.proofs.Common.{◌≡◌, ◌≤◌, ◌<◌, ◌+◌, ℕ, List, [], ◌∷◌, ◌++◌, ap, arith, length, length-append, refl, subst, sym, ◌∙◌}
use Rattle.std.proofs.lemmas.List.{append-nil}
use Rattle.std.specs.Prelude.{codes}
use Rattle.gixobj_actor.proofs.ActorLines.{actor_view_unique}
use Rattle.gixobj_actor.specs.Actor.{IsActorLineOf}
use Rattle.gixobj_parse.proofs.HeaderFields.{has_field_of_encoded, field_unique}
use Rattle.gixobj_parse.specs.HeaderReading.{BeginsWithIdField}
use Rattle.gixobj_hash.specs.HeaderFormat.{BeginsWithField}
use Rattle.gixobj_hash.specs.FieldFormat.{encode_field}
use Rattle.gixobj_hash.proofs.Headers.{kind_keyword_injective}
use Rattle.gixobj_hash.proofs.HexIds.{decoded_id_unique}
use Rattle.gixobj_hash.specs.Hash.{DecodesToId}
use Rattle.gixobj_hash.specs.Kind.{kind_name}
use Rattle.gixobj_hash.specs.declared.hash.kind.Kind as hash
use Rattle.gixobj_hash.specs.declared.hash.object_id.ObjectId.{ObjectId}
use Rattle.gixobj_tag.proofs.Bodies.{body_unique}
use Rattle.gixobj_grammar.proofs.TagLines.{no_tagger_and_begins_field}
use Rattle.gixobj_grammar.specs.TagTokens.{BeginsWithTagToken, DecodesToTagToken, TagTokenView, body_comes, kind_comes, kind_token, name_comes, name_token}
use Rattle.gixobj_grammar.specs.TagTokens.{no_tagger_comes, tagger_comes, tagger_token, target_comes, target_token}
use Rattle.gixobj_tokens.specs.TagTokenSteps.{remaining_states}
use Rattle.gixobj_grammar.specs.declared.tokens.State.{State}

-- ---- a token consumes bytes, or at least a state

-- after a field fewer bytes remain
field_rest_len_lt : (name input value rest : List ℕ) → BeginsWithField name input value rest → length rest < length input
field_rest_len_lt name input value rest field =
    omega (arith, ap length field.joined, length-append (encode_field name value) rest, length-append name (32 ∷ (value ++ 10 ∷ [])))

pub remaining_len_le : (kind : hash.Kind) (before : State) (input : List ℕ) (token : TagTokenView) (after : State) (rest : List ℕ)
    → BeginsWithTagToken kind before input token after rest → length rest ≤ length input
remaining_len_le kind before input token after rest (target_comes _ hex _ id has spells) = let less =
    field_rest_len_lt (codes "object") input hex rest has.0 in omega
    (arith, less)
remaining_len_le kind before input token after rest (kind_comes _ _ of field) = let less =
    field_rest_len_lt (codes "type") input (kind_name of) rest field in omega
    (arith, less)
remaining_len_le kind before input token after rest (name_comes _ name _ has) = let less = field_rest_len_lt (codes "tag") input name rest has.0 in omega
    (arith, less)
remaining_len_le kind before input token after rest (tagger_comes _ line _ actor bytes field is) = let less =
    field_rest_len_lt (codes "tagger") input line rest field in omega (arith, less)
remaining_len_le kind before input token after rest (no_tagger_comes _ filled lacks) = omega arith
remaining_len_le kind before input token after rest (body_comes _ message signature filled is) = omega arith

remaining_states_lt : (kind : hash.Kind) (before : State) (input : List ℕ) (token : TagTokenView) (after : State) (rest : List ℕ)
    → BeginsWithTagToken kind before input token after rest → remaining_states after < remaining_states before
remaining_states_lt kind before input token after rest (target_comes _ hex _ id has spells) = omega arith
remaining_states_lt kind before input token after rest (kind_comes _ _ of field) = omega arith
remaining_states_lt kind before input token after rest (name_comes _ name _ has) = omega arith
remaining_states_lt kind before input token after rest (tagger_comes _ line _ actor bytes field is) = omega arith
remaining_states_lt kind before input token after rest (no_tagger_comes _ filled lacks) = omega arith
remaining_states_lt kind before input token after rest (body_comes _ message signature filled is) = omega arith

pub remaining_measure_lt : (kind : hash.Kind) (before : State) (input : List ℕ) (token : TagTokenView) (after : State) (rest : List ℕ)
    → BeginsWithTagToken kind before input token after rest
    → length rest + remaining_states after < length input + remaining_states before
remaining_measure_lt kind before input token after rest has =
    omega (arith, remaining_len_le kind before input token after rest has, remaining_states_lt kind before input token after rest has)

-- ---- one token

pub no_tag_token_of_nil : (kind : hash.Kind) (before : State) (input : List ℕ) (token : TagTokenView) (after : State) (rest : List ℕ) → input ≡ []
    → BeginsWithTagToken kind before input token after rest → ⊥
no_tag_token_of_nil kind before input token after rest bare (target_comes _ hex _ id has spells) = let less =
    field_rest_len_lt (codes "object") input hex rest has.0 in omega (arith, less, ap length bare)
no_tag_token_of_nil kind before input token after rest bare (kind_comes _ _ of field) = let less =
    field_rest_len_lt (codes "type") input (kind_name of) rest field in omega (arith, less, ap length bare)
no_tag_token_of_nil kind before input token after rest bare (name_comes _ name _ has) = let less =
    field_rest_len_lt (codes "tag") input name rest has.0 in omega
    (arith, less, ap length bare)
no_tag_token_of_nil kind before input token after rest bare (tagger_comes _ line _ actor bytes field is) = let less =
    field_rest_len_lt (codes "tagger") input line rest field in omega (arith, less, ap length bare)
no_tag_token_of_nil kind before input token after rest bare (no_tagger_comes _ filled lacks) = filled bare
no_tag_token_of_nil kind before input token after rest bare (body_comes _ message signature filled is) = filled bare

target_field_unique : (kind : hash.Kind) (input a x : List ℕ) (i : ObjectId) (b y : List ℕ) (j : ObjectId) → BeginsWithIdField (codes "object") kind input a x
    → DecodesToId a i
    → BeginsWithIdField (codes "object") kind input b y → DecodesToId b j → (i ≡ j) × (x ≡ y)
target_field_unique kind input a x i b y j has spells has' spells' =
    let same = field_unique (codes "object") input a x b y has.0 has'.0 in
    let there : DecodesToId b i = subst (λ (it : List ℕ). DecodesToId it i) same.0 spells in
    (decoded_id_unique b i there ∙ sym (decoded_id_unique b j spells'), same.1)

pub tag_token_unique : (kind : hash.Kind) (before : State) (input : List ℕ) (a b : TagTokenView) (s t : State) (x y : List ℕ)
    → BeginsWithTagToken kind before input a s x
    → BeginsWithTagToken kind before input b t y → (a ≡ b) × (s ≡ t) × (x ≡ y)
tag_token_unique kind before input a b s t x y (target_comes _ hex _ id has spells) (target_comes _ hex' _ id' has' spells') =
    let same = target_field_unique kind input hex x id hex' y id' has spells has' spells' in (ap target_token same.0, refl, same.1)
tag_token_unique kind before input a b s t x y (kind_comes _ _ of field) (kind_comes _ _ of' field') =
    let same = field_unique (codes "type") input (kind_name of) x (kind_name of') y field field' in
    (ap kind_token (kind_keyword_injective of of' same.0), refl, same.1)
tag_token_unique kind before input a b s t x y (name_comes _ name _ has) (name_comes _ name' _ has') =
    let same = field_unique (codes "tag") input name x name' y has.0 has'.0 in (ap name_token same.0, refl, same.1)
tag_token_unique kind before input a b s t x y (tagger_comes _ line _ actor bytes field is) (tagger_comes _ line' _ actor' bytes' field' is') =
    let same = field_unique (codes "tagger") input line x line' y field field' in
    let there = subst (λ (it : List ℕ). IsActorLineOf it actor bytes) same.0 is in
    (ap tagger_token (actor_view_unique line' actor actor' bytes bytes' there is'), refl, same.1)
tag_token_unique kind before input a b s t x y (tagger_comes _ line _ actor bytes field is) (no_tagger_comes _ filled lacks) =
    absurd (no_tagger_and_begins_field (codes "tagger") input line x field lacks)
tag_token_unique kind before input a b s t x y (no_tagger_comes _ filled lacks) (tagger_comes _ line _ actor bytes field is) =
    absurd (no_tagger_and_begins_field (codes "tagger") input line y field lacks)
tag_token_unique kind before input a b s t x y (no_tagger_comes _ filled lacks) (no_tagger_comes _ _ _) = (refl, refl, refl)
tag_token_unique kind before input a b s t x y (body_comes _ message signature filled is) (body_comes _ message' signature' _ is') =
    let same = body_unique input message message' signature signature' is is' in (cc (same.0, same.1), refl, refl)

-- ---- the encoding of a token

pub tag_token_bytes_exist : (kind : hash.Kind) (before : State) (input : List ℕ) (token : TagTokenView) (after : State) (rest : List ℕ)
    → BeginsWithTagToken kind before input token after rest → (content : List ℕ) × (input ≡ content ++ rest) × DecodesToTagToken kind token content
tag_token_bytes_exist kind before input token after rest (target_comes _ hex _ id has spells) = (
  encode_field (codes "object") hex,
  has.0.joined,
  (before, after, target_comes _ hex [] id (has_field_of_encoded (codes "object") input hex rest has.0, has.1) spells),
)
tag_token_bytes_exist kind before input token after rest (kind_comes _ _ of field) = (
  encode_field (codes "type") (kind_name of),
  field.joined,
  (before, after, kind_comes _ [] of (has_field_of_encoded (codes "type") input (kind_name of) rest field)),
)
tag_token_bytes_exist kind before input token after rest (name_comes _ name _ has) =
    (encode_field (codes "tag") name, has.0.joined, (before, after, name_comes _ name [] (has_field_of_encoded (codes "tag") input name rest has.0, has.1)))
tag_token_bytes_exist kind before input token after rest (tagger_comes _ line _ actor bytes field is) = (
  encode_field (codes "tagger") line,
  field.joined,
  (before, after, tagger_comes _ line [] actor bytes (has_field_of_encoded (codes "tagger") input line rest field) is),
)
tag_token_bytes_exist kind before input token after rest (no_tagger_comes _ filled lacks) = ([], refl, refl)
tag_token_bytes_exist kind before input token after rest (body_comes _ message signature filled is) =
    (input, sym (append-nil input), (before, after, body_comes input message signature filled is))
