-- A tag and its tokens (gitdatamodel, "tag objects").
use Rattle.std.specs.Prelude.{◌≡◌, List, [], ◌∷◌, ◌++◌, None, ⊤}
use Rattle.gixobj_hash.specs.Hash.{DecodesToId}
use Rattle.gixobj_hash.specs.declared.hash.object_id.ObjectId.{ObjectId}
use Rattle.gixobj_tag.specs.TagFormat.{TagLines}
use Rattle.gixobj_grammar.specs.TagTokens.{IsTokenOfTagger, TagTokenView, body_token, kind_token, name_token}
use Rattle.gixobj_grammar.specs.TagTokens.{no_tagger_token, target_token}

-- one of the tokens is a name
abbrev pub IsAfterName : List TagTokenView → Type 0
IsAfterName [] = ⊥
IsAfterName (name_token name ∷ tokens) = ⊤
IsAfterName (token ∷ tokens) = IsAfterName tokens

-- the tokens are all parts of the tag
pub record AreAllTokensOfTag (tag : TagLines) (tokens : List TagTokenView) : Type 0 where
  pub id : ObjectId
  pub tagger : TagTokenView
  pub hex_of_id : DecodesToId tag.target id
  pub yielded : IsTokenOfTagger tag.tagger tagger
  pub joined : tokens ≡ target_token id ∷ kind_token tag.target_kind ∷ name_token tag.name ∷ tagger
      ∷ body_token tag.message tag.signature ∷ []

-- tokens that may be missing at the end: the absence of a tagger, and an empty body
pub data IsOptionalToken : List TagTokenView → Type 0 where
  misses_nothing : IsOptionalToken []
  misses_body : IsOptionalToken (body_token [] None ∷ [])
  misses_tagger_and_body : IsOptionalToken (no_tagger_token ∷ body_token [] None ∷ [])

-- the tokens are the parts of the tag; only the absence of a tagger and an empty body may be missing
abbrev pub AreTokensOfTag : TagLines → List TagTokenView → Type 0
AreTokensOfTag tag tokens = (missing : List TagTokenView) × IsOptionalToken missing
    × AreAllTokensOfTag tag (tokens ++ missing)

-- nothing follows the name: no tagger, no message, no signature
abbrev pub EndsAfterItsName : TagLines → Type 0
EndsAfterItsName tag = (tag.tagger ≡ None) × (tag.message ≡ []) × (tag.signature ≡ None)
