-- States which token a tagger line or its absence is, for the decoder of tokens.
use Rattle.std.proofs.Common.{◌≡◌, ◌≢◌, List, ℕ, [], Option, Some, None, refl, subst}
use Rattle.bstr.specs.BStr.{bstr_bytes}
use Rattle.bstr.specs.declared.bstr.BStr.{BStr}
use Rattle.gixobj_actor.specs.Actor.{actor_view}
use Rattle.gixobj_actor.specs.declared.actor.SignatureRef.{SignatureRef}
use Rattle.gixobj_hash.specs.declared.hash.kind.Kind as hash
use Rattle.gixobj_grammar.specs.TagLines.{BeginsWithMalformedTagger, BeginsWithTagger}
use Rattle.gixobj_grammar.specs.TagLineViews.{IsParsedTagger, line_if_some}
use Rattle.gixobj_grammar.specs.TagTokens.{BeginsWithTagToken, IsTokenOfTagger, TagTokenView, no_tagger_comes, tagger_comes, tagger_token, yields_no_tagger}
use Rattle.gixobj_grammar.specs.TagTokens.{yields_tagger}
use Rattle.gixobj_grammar.specs.declared.tokens.State.{State}
use Rattle.gixobj_grammar.specs.declared.tokens.State.TheVariants as state

-- ---- the tagger

pub is_token_of_tagger : (tagger : Option (BStr × SignatureRef)) (line : BStr) (actor : SignatureRef) → IsParsedTagger tagger → tagger ≡ Some (line, actor)
    → IsTokenOfTagger (line_if_some tagger) (tagger_token (actor_view actor))
is_token_of_tagger tagger line actor parsed same =
    let it : IsParsedTagger (Some (line, actor)) = subst IsParsedTagger same parsed in
    rw same (yields_tagger (bstr_bytes line) (actor_view actor) it.0 it.1)

pub begins_with_token_of_tagger : (kind : hash.Kind) (input rest : List ℕ) (line : Option (List ℕ)) (token : TagTokenView) → input ≢ []
    → BeginsWithTagger input line rest
    → IsTokenOfTagger line token → BeginsWithTagToken kind state.Tagger input token state.Body rest
begins_with_token_of_tagger kind input rest (Some line) token filled (field, _) (yields_tagger _ actor after is) =
    tagger_comes input line rest actor after field is
begins_with_token_of_tagger kind input rest None token filled (lacks, same) yields_no_tagger =
    rw same (no_tagger_comes input filled lacks)

-- ---- no token

pub no_token_of_malformed_tagger : (kind : hash.Kind) (input : List ℕ) (token : TagTokenView) (after : State) (rest : List ℕ) → BeginsWithMalformedTagger input
    → BeginsWithTagToken kind state.Tagger input token after rest → ⊥
no_token_of_malformed_tagger kind input token after rest none (tagger_comes _ line _ actor bytes field is) =
    none (Some line) rest (field, (actor.name, actor.email, actor.time, bytes, is))
no_token_of_malformed_tagger kind input token after rest none (no_tagger_comes _ filled lacks) = none None input (lacks, refl)
