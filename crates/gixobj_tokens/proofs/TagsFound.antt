-- States what searches of a token iterator find in the encoding of a tag; the law `tag_part_search_complete` uses it.
use Rattle.std.proofs.Common.{◌≡◌, ◌≢◌, ℕ, List, [], ◌∷◌, ◌++◌, Option, Some, None, Result, Ok, Err, append_assoc, ap, refl, subst, sym, ◌∙◌}
use Rattle.std.proofs.lemmas.List.{append-nil}
use Rattle.gixobj_actor.specs.declared.actor.SignatureRef.{SignatureRef}
use Rattle.gixobj_hash.proofs.Runs.{after_first, yields_after_pieces, one_here}
use Rattle.gixobj_parse.specs.Iterators.{ReaderState}
use Rattle.gixobj_hash.specs.Runs.{Ending, HasNone, complete, yields_end, yields_piece}
use Rattle.gixobj_hash.specs.Hash.{DecodesToId}
use Rattle.gixobj_hash.specs.declared.decode.Error.{Error}
use Rattle.gixobj_hash.specs.declared.decode.Error.TheVariants.{Malformed, OutOfMemory}
use Rattle.gixobj_hash.specs.declared.hash.kind.Kind.{Kind}
use Rattle.gixobj_hash.specs.declared.kind.Kind as object
use Rattle.gixobj_hash.specs.declared.hash.object_id.ObjectId.{ObjectId}
use Rattle.gixobj_tokens.proofs.TagLanguage as language
use Rattle.gixobj_tokens.proofs.TagRuns.{token_run_unique}
use Rattle.gixobj_tokens.proofs.TagTokens.{no_tag_token_of_nil, tag_token_unique}
use Rattle.gixobj_tokens.specs.TagReaders.{AreTokensOfTag, EndsAfterItsName, IsOptionalToken, IsAfterName, AreAllTokensOfTag, misses_body, misses_nothing}
use Rattle.gixobj_tokens.specs.TagReaders.{misses_tagger_and_body}
use Rattle.gixobj_grammar.specs.TagTokens.{IsTokenOfTagger, yields_no_tagger, yields_tagger, BeginsWithTagToken, TagTokenView, body_token, kind_token}
use Rattle.gixobj_grammar.specs.TagTokens.{name_token, no_tagger_token, target_token, tag_token_view, tag_token_id}
use Rattle.gixobj_tag.specs.TagFormat.{DecodesToTag, TagLines}
use Rattle.gixobj_tokens.specs.TagTokenSteps.{FindsTagger, NextIdOfTag, NextTagToken, IsAtStartOfTag, IsTaggerToken, YieldsNoTagger, YieldsTagTokens}
use Rattle.gixobj_tokens.specs.TagTokenSteps.{answered_tag_id, tag_id_or_malformed, tag_reader_state, token_of_tagger}
use Rattle.gixobj_grammar.specs.declared.tokens.State.{State}
use Rattle.gixobj_grammar.specs.declared.tokens.State.TheVariants as state
use Rattle.gixobj_tokens.specs.declared.tag.TagRefIter.{TagRefIter}
use Rattle.gixobj_grammar.specs.declared.tokens.Token.{Token}

-- ---- lists of tokens

nil_ne_snoc : (xs : List TagTokenView) (x : TagTokenView) → [] ≢ xs ++ x ∷ []
nil_ne_snoc [] x same = cc same
nil_ne_snoc (first ∷ xs) x same = cc same

snoc_injective : (xs ys : List TagTokenView) (x y : TagTokenView) → xs ++ x ∷ [] ≡ ys ++ y ∷ [] → (xs ≡ ys) × (x ≡ y)
snoc_injective [] [] x y same = (refl, cc same)
snoc_injective [] (b ∷ ys) x y same = let none : [] ≡ ys ++ y ∷ [] = cc same in absurd (nil_ne_snoc ys y none)
snoc_injective (a ∷ xs) [] x y same = let none : [] ≡ xs ++ x ∷ [] = cc (sym same) in absurd (nil_ne_snoc xs x none)
snoc_injective (a ∷ xs) (b ∷ ys) x y same =
    let heads : a ≡ b = cc same in
    let tails : xs ++ x ∷ [] ≡ ys ++ y ∷ [] = cc same in
    let more = snoc_injective xs ys x y tails in
    (cc (heads, more.0), more.1)

is_tagger_token_of_line : (line : Option (List ℕ)) (token : TagTokenView) → IsTokenOfTagger line token → IsTaggerToken token
is_tagger_token_of_line line token (yields_tagger _ actor rest is) = tt
is_tagger_token_of_line line token yields_no_tagger = tt

no_tagger_line_of_token : (line : Option (List ℕ)) (token : TagTokenView) → IsTokenOfTagger line token → token ≡ no_tagger_token → line ≡ None
no_tagger_line_of_token line token (yields_tagger _ actor rest is) same = absurd (cc same)
no_tagger_line_of_token line token yields_no_tagger same = refl

token_of_tagger_is_tagger : (tagger : Option SignatureRef) → IsTaggerToken (token_of_tagger tagger)
token_of_tagger_is_tagger None = tt
token_of_tagger_is_tagger (Some actor) = tt

-- of all tokens of a tag, only the tagger's is a tagger token
tagger_token_unique : (consumed more : List TagTokenView) (token tagger : TagTokenView) (id : ObjectId) (of : object.Kind) (name message : List ℕ)
    (signature : Option (List ℕ)) → IsTaggerToken token
    → consumed ++ token ∷ more ≡ target_token id ∷ kind_token of ∷ name_token name ∷ tagger ∷ body_token message signature ∷ [] → token ≡ tagger
tagger_token_unique [] more token tagger id of name message signature is same = let e : token ≡ target_token id =
    cc same in absurd (subst IsTaggerToken e is)
tagger_token_unique (a ∷ []) more token tagger id of name message signature is same = let e : token ≡ kind_token of =
    cc same in absurd (subst IsTaggerToken e is)
tagger_token_unique (a ∷ b ∷ []) more token tagger id of name message signature is same = let e : token ≡ name_token name =
    cc same in absurd (subst IsTaggerToken e is)
tagger_token_unique (a ∷ b ∷ c ∷ []) more token tagger id of name message signature is same = cc same
tagger_token_unique (a ∷ b ∷ c ∷ d ∷ []) more token tagger id of name message signature is same = let e : token ≡ body_token message signature =
    cc same in absurd (subst IsTaggerToken e is)
tagger_token_unique (a ∷ b ∷ c ∷ d ∷ e ∷ []) more token tagger id of name message signature is same = absurd (cc same)
tagger_token_unique (a ∷ b ∷ c ∷ d ∷ e ∷ f ∷ consumed) more token tagger id of name message signature is same = absurd (cc same)

-- ---- without a tagger token

not_has_none_of_tagger : (tag : TagLines) (tokens : List TagTokenView) (id : ObjectId) (tagger : TagTokenView) (more : List TagTokenView)
    → IsTokenOfTagger tag.tagger tagger → tokens ≡ target_token id ∷ kind_token tag.target_kind ∷ name_token tag.name ∷ tagger ∷ more
    → HasNone IsTaggerToken tokens → ⊥
not_has_none_of_tagger tag tokens id tagger more yields same none =
    one_here IsTaggerToken (target_token id ∷ kind_token tag.target_kind ∷ name_token tag.name ∷ []) tagger more
    (is_tagger_token_of_line tag.tagger tagger yields)
    (subst (HasNone IsTaggerToken) same none)

body_token_injective : (m n : List ℕ) (s t : Option (List ℕ)) → body_token m s ≡ body_token n t → (m ≡ n) × (s ≡ t)
body_token_injective m n s t same = (cc same, cc same)

ends_after_name_of_no_tagger : (tag : TagLines) (tokens missing : List TagTokenView) → IsOptionalToken missing → AreAllTokensOfTag tag (tokens ++ missing)
    → HasNone IsTaggerToken tokens → EndsAfterItsName tag
ends_after_name_of_no_tagger tag tokens missing misses_nothing all none =
    absurd (not_has_none_of_tagger tag tokens all.id all.tagger (body_token tag.message tag.signature ∷ []) all.yielded
    (sym (append-nil tokens) ∙ all.joined) none)
ends_after_name_of_no_tagger tag tokens missing misses_body all none =
    let apart = snoc_injective tokens (target_token all.id ∷ kind_token tag.target_kind ∷ name_token tag.name ∷ all.tagger ∷ []) (body_token [] None)
    (body_token tag.message tag.signature) all.joined in
    absurd (not_has_none_of_tagger tag tokens all.id all.tagger [] all.yielded apart.0 none)
ends_after_name_of_no_tagger tag tokens missing misses_tagger_and_body all none =
    let regrouped : (tokens ++ no_tagger_token ∷ []) ++ body_token [] None ∷ [] ≡ tokens ++ no_tagger_token ∷ body_token [] None ∷ [] =
    append_assoc tokens (no_tagger_token ∷ []) (body_token [] None ∷ []) in
    let body = snoc_injective (tokens ++ no_tagger_token ∷ []) (target_token all.id ∷ kind_token tag.target_kind ∷ name_token tag.name ∷ all.tagger ∷ [])
    (body_token [] None) (body_token tag.message tag.signature) (regrouped ∙ all.joined) in
    let tagger = snoc_injective tokens (target_token all.id ∷ kind_token tag.target_kind ∷ name_token tag.name ∷ []) no_tagger_token all.tagger body.0 in
    let bare = body_token_injective [] tag.message None tag.signature body.1 in
    (no_tagger_line_of_token tag.tagger all.tagger all.yielded (sym tagger.1), sym bare.0, sym bare.1)

-- ---- the run of an iterator at the start of a tag's encoding

first_token_is_target : (tag : TagLines) (tokens missing : List TagTokenView) (token : TagTokenView) (others : List TagTokenView)
    → (all : AreAllTokensOfTag tag (tokens ++ missing)) → tokens ≡ token ∷ others → token ≡ target_token all.id
first_token_is_target tag tokens missing token others all same =
    let joined : token ∷ (others ++ missing) ≡ target_token all.id ∷ kind_token tag.target_kind ∷ name_token tag.name ∷ all.tagger
    ∷ body_token tag.message
    tag.signature ∷ [] =
    ap (λ (it : List TagTokenView). it ++ missing) (sym same) ∙ all.joined in
    cc joined

first_token_exists : (kind : Kind) (before : State) (input : List ℕ) (tokens : List TagTokenView) → YieldsTagTokens kind before input tokens complete
    → IsAfterName tokens → (token : TagTokenView) × (following : State) × (rest : List ℕ) × BeginsWithTagToken kind before input token following rest
first_token_exists kind before input tokens (yields_end _) came = absurd came
first_token_exists kind before input tokens (yields_piece _ following _ rest token _ _ has yields_decoded) came = (token, following, rest, has)

module _ (kind : Kind) (content : List ℕ) (tag : TagLines) (reader : TagRefIter) (is : DecodesToTag kind content tag)
    (start : IsAtStartOfTag kind content reader) where
  run : (tokens : List TagTokenView) × YieldsTagTokens kind state.Target content tokens complete × AreTokensOfTag tag tokens × IsAfterName tokens
  run = language.yields_tokens_of_tag kind content tag is

  yields_decoded : YieldsTagTokens (tag_reader_state reader).kind (tag_reader_state reader).state (tag_reader_state reader).bytes run.0 complete
  yields_decoded = subst (λ (it : ReaderState Kind State). YieldsTagTokens it.kind it.state it.bytes run.0 complete) (sym start) run.1

  begins : (token : TagTokenView) × (following : State) × (rest : List ℕ) × BeginsWithTagToken (tag_reader_state reader).kind (tag_reader_state reader).state
      (tag_reader_state reader).bytes token following rest
  begins = first_token_exists (tag_reader_state reader).kind (tag_reader_state reader).state (tag_reader_state reader).bytes run.0 yields_decoded run.3

  its_answer : (answer : Option (Result Token Error)) (after : TagRefIter) → NextTagToken reader answer after → (id : ObjectId)
      × (answered_tag_id answer ≡ Ok id) × DecodesToId tag.target id
  its_answer (Some (Ok token)) after gives =
      let kind' = (tag_reader_state reader).kind in
      let first = after_first (BeginsWithTagToken kind') (tag_token_unique kind') (no_tag_token_of_nil kind') (tag_reader_state reader).state
      (tag_reader_state after).state
      (tag_reader_state reader).bytes (tag_reader_state after).bytes (tag_token_view token) run.0 complete gives.0 yields_decoded in
      let all = run.2.2 in
      let same = first_token_is_target tag run.0 run.2.0 (tag_token_view token) first.others all first.joined in
      (all.id, ap (λ (it : TagTokenView). tag_id_or_malformed (tag_token_id it)) same, all.hex_of_id)
  its_answer (Some (Err Malformed)) after gives = absurd (gives.1 _ _ _ begins.3)
  its_answer (Some (Err OutOfMemory)) after gives = absurd gives.1
  its_answer None after gives =
      absurd (no_tag_token_of_nil (tag_reader_state reader).kind (tag_reader_state reader).state (tag_reader_state reader).bytes begins.0 _ _ gives.0
      begins.3)

  pub its_target : (result : Result ObjectId Error) → NextIdOfTag reader result → (id : ObjectId) × (result ≡ Ok id) × DecodesToId tag.target id
  its_target result (answer, after, gives, is_answer) = let it = its_answer answer after gives in (it.0, is_answer ∙ it.1, it.2)

  pub its_tagger : (tagger : Option SignatureRef) → FindsTagger reader tagger → IsTokenOfTagger tag.tagger (token_of_tagger tagger)
  its_tagger tagger (before, following, here, rest, (consumed, begins_with, none), has) =
      let kind' = (tag_reader_state reader).kind in
      let at = yields_after_pieces (BeginsWithTagToken kind') (tag_token_unique kind') (no_tag_token_of_nil kind') (tag_reader_state reader).state before
      (tag_reader_state reader).bytes here consumed run.0 complete begins_with yields_decoded in
      let first = after_first (BeginsWithTagToken kind') (tag_token_unique kind') (no_tag_token_of_nil kind') before following here rest
      (token_of_tagger tagger) at.others complete has at.yielded in
      let all = run.2.2 in
      let joined : consumed ++ token_of_tagger tagger ∷ (first.others ++ run.2.0) ≡ (consumed ++ token_of_tagger tagger ∷ first.others) ++ run.2.0 =
      sym (append_assoc consumed (token_of_tagger tagger ∷ first.others) run.2.0) in
      let entire = joined ∙ ap (λ (it : List TagTokenView). (consumed ++ it) ++ run.2.0) (sym first.joined)
      ∙ ap (λ (it : List TagTokenView). it ++ run.2.0)
      (sym at.joined) ∙ all.joined in
      let same = tagger_token_unique consumed (first.others ++ run.2.0) (token_of_tagger tagger) all.tagger all.id tag.target_kind tag.name tag.message
      tag.signature
      (token_of_tagger_is_tagger tagger) entire in
      subst (IsTokenOfTagger tag.tagger) (sym same) all.yielded

  pub ends_after_name : (ending : Ending) → YieldsNoTagger reader ending → EndsAfterItsName tag
  ends_after_name ending (tokens, lacks, none) =
      let same = (token_run_unique (tag_reader_state reader).kind (tag_reader_state reader).state (tag_reader_state reader).bytes tokens run.0 ending complete
      lacks
      yields_decoded).0 in
      ends_after_name_of_no_tagger tag run.0 run.2.0 run.2.1 run.2.2 (subst (HasNone IsTaggerToken) same none)
