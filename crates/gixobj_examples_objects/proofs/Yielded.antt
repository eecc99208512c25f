-- The tokens that a reader yields of a tag's encoding, by the laws of both readers; the proofs of `target_and_name` and
-- `next_token` use it.
use Rattle.std.proofs.Common.{◌≡◌, ◌≤◌, ℕ, List, [], ◌∷◌, ◌++◌, Some, None, Ok, ap, arith, length, sym, subst, ◌∙◌}
use Rattle.gix_object.specs.Hash.{DecodesToId}
use Rattle.gix_object.specs.Runs.{Ending, complete, yields_end, yields_piece}
use Rattle.gix_object.specs.TagReaders.{AreTokensOfTag, IsOptionalToken, IsAfterName, misses_body, misses_nothing, misses_tagger_and_body}
use Rattle.gix_object.specs.TagFormat.{DecodesToTag, TagLines}
use Rattle.gix_object.specs.TagTokenSteps.{NextTagToken, IsAtStartOfTag, YieldsTagTokens, tag_reader_state}
use Rattle.gix_object.specs.TagTokens.{BeginsWithTagToken, TagTokenView, kind_token, name_token, tag_token_id, tag_token_view, target_token}
use Rattle.gix_object.specs.hash.hash.kind.Kind.{Kind}
use Rattle.gix_object.specs.hash.hash.object_id.ObjectId.{ObjectId}
use Rattle.gix_object.specs.line.tokens.State.{State}
use Rattle.gix_object.specs.line.tokens.State.TheVariants as state
use Rattle.gix_object.specs.ref_iter.tag.TagRefIter.{TagRefIter}
use Rattle.gix_object.specs.line.tokens.Token.{Token}
use Rattle.gixobj_examples_objects.specs.Yielded.{IsToYield}

-- ---- the laws, as their functions state them

abbrev OneToken : Type 0
OneToken = (kind : Kind) (before : State) (input : List ℕ) (token token' : TagTokenView) (following after' : State) (rest rest' : List ℕ)
    → BeginsWithTagToken kind before input token following rest
    → BeginsWithTagToken kind before input token' after' rest' → (token ≡ token') × (following ≡ after') × (rest ≡ rest')

abbrev OneRun : Type 0
OneRun = (kind : Kind) (before : State) (input : List ℕ) (tokens tokens' : List TagTokenView) (ending ending' : Ending)
    → YieldsTagTokens kind before input tokens ending → YieldsTagTokens kind before input tokens' ending'
    → (tokens ≡ tokens') × (ending ≡ ending')

abbrev IsKnown : Type 0
IsKnown = (kind : Kind) (content : List ℕ) (tag : TagLines) → DecodesToTag kind content tag → (tokens : List TagTokenView)
    × YieldsTagTokens kind state.Target content tokens complete × AreTokensOfTag tag tokens × IsAfterName tokens

-- ---- one call, if tokens remain

yields_tokens_tail : OneToken → (kind kind' : Kind) (before after : State) (input rest : List ℕ) (token first : TagTokenView) (others : List TagTokenView)
    → BeginsWithTagToken kind before input token after rest → kind' ≡ kind
    → YieldsTagTokens kind before input (first ∷ others) complete → (token ≡ first) × YieldsTagTokens kind' after rest others complete
yields_tokens_tail one kind kind' before after input rest token first others has same (yields_piece _ following _ remaining _ _ _ comes more) =
    let it = one kind before input token first after following rest remaining has comes in
    (it.0, rw (same, it.1, it.2) more)

pub first_token_yielded : OneToken → (before after : TagRefIter) (token : Token) (first : TagTokenView) (others : List TagTokenView)
    → NextTagToken before (Some (Ok token)) after → IsToYield before (first ∷ others)
    → (tag_token_view token ≡ first) × IsToYield after others
first_token_yielded one before after token first others gives is =
    yields_tokens_tail one (tag_reader_state before).kind (tag_reader_state after).kind (tag_reader_state before).state (tag_reader_state after).state
    (tag_reader_state before).bytes (tag_reader_state after).bytes (tag_token_view token) first others gives.0 gives.1 is

yields_no_tokens_of_nil : OneRun → (kind : Kind) (before : State) (input : List ℕ) (first : TagTokenView) (others : List TagTokenView) → input ≡ []
    → YieldsTagTokens kind before input (first ∷ others) complete → ⊥
yields_no_tokens_of_nil one kind before input first others bare run =
    let here : YieldsTagTokens kind before [] (first ∷ others) complete =
    subst (λ (it : List ℕ). YieldsTagTokens kind before it (first ∷ others) complete) bare run in
    let same : first ∷ others ≡ [] = (one kind before [] (first ∷ others) [] complete complete here (yields_end before)).0 in
    cc same

pub no_end_before_tokens : OneRun → (before after : TagRefIter) (first : TagTokenView) (others : List TagTokenView) → NextTagToken before None after
    → IsToYield before (first ∷ others) → ⊥
no_end_before_tokens one before after first others gives is = yields_no_tokens_of_nil one (tag_reader_state before).kind (tag_reader_state before).state
    (tag_reader_state before).bytes first others gives.0 is

-- ---- the first tokens of a tag

optional_tokens_len_le_two : (missing : List TagTokenView) → IsOptionalToken missing → length missing ≤ 2
optional_tokens_len_le_two missing misses_nothing = omega arith
optional_tokens_len_le_two missing misses_body = omega arith
optional_tokens_len_le_two missing misses_tagger_and_body = omega arith

first_three_tokens_exist : (tokens missing : List TagTokenView) (a b c d e : TagTokenView) → IsOptionalToken missing
    → tokens ++ missing ≡ a ∷ b ∷ c ∷ d ∷ e ∷ []
    → (more : List TagTokenView) × (tokens ≡ a ∷ b ∷ c ∷ more)
first_three_tokens_exist [] missing a b c d e may joined = absurd (omega (arith, optional_tokens_len_le_two missing may, ap length joined))
first_three_tokens_exist (x ∷ []) missing a b c d e may joined = absurd (omega (arith, optional_tokens_len_le_two missing may, ap length joined))
first_three_tokens_exist (x ∷ y ∷ []) missing a b c d e may joined = absurd (omega (arith, optional_tokens_len_le_two missing may, ap length joined))
first_three_tokens_exist (x ∷ y ∷ z ∷ more) missing a b c d e may joined =
    let one : x ≡ a = cc joined in
    let two : y ≡ b = cc joined in
    let three : z ≡ c = cc joined in
    (more, cc (one, two, three))

-- a reader of a tag's encoding yields its target first, and its name as the third token
pub record Starts (tag : TagLines) (reader : TagRefIter) : Type 0 where
  pub id : ObjectId
  pub more : List TagTokenView
  pub hex_of_id : DecodesToId tag.target id
  pub to_yield : IsToYield reader (target_token id ∷ kind_token tag.target_kind ∷ name_token tag.name ∷ more)

pub starts_of_decoded_tag : IsKnown → (kind : Kind) (content : List ℕ) (tag : TagLines) (reader : TagRefIter) → DecodesToTag kind content tag
    → IsAtStartOfTag kind content reader → Starts tag reader
starts_of_decoded_tag seen kind content tag reader is start =
    let (tokens, run, (missing, may, all), came) = seen kind content tag is in
    let (more, same) = first_three_tokens_exist tokens missing _ _ _ _ _ may all.joined in
    let here : IsToYield reader tokens = subst (λ it. YieldsTagTokens it.kind it.state it.bytes tokens complete) (sym start) run in
    record { id = all.id; more = more; hex_of_id = all.hex_of_id; to_yield = subst (IsToYield reader) same here }

-- ---- the value of a token

pub target_unique : (token : TagTokenView) (target id : ObjectId) → token ≡ target_token id → Some target ≡ tag_token_id token → target ≡ id
target_unique token target id same seen = let it : Some target ≡ Some id = seen ∙ ap tag_token_id same in cc it

pub target_token_has_id : (token : TagTokenView) (id : ObjectId) → token ≡ target_token id → None ≡ tag_token_id token → ⊥
target_token_has_id token id same none = let it : None ≡ Some id = none ∙ ap tag_token_id same in cc it

pub name_unique : (token : TagTokenView) (a b : List ℕ) → token ≡ name_token a → token ≡ name_token b → a ≡ b
name_unique token a b first second = let it : name_token a ≡ name_token b = sym first ∙ second in cc it
