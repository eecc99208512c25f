-- Tags that are decoded and encoded again (gitdatamodel, "tag objects").
use Rattle.std.specs.Prelude.{◌≡◌, ◌⊎◌, ℕ, List, IsFalse, Option, None, Some}
use Rattle.std.specs.Str.{str_to_ascii_lowercase}
use Rattle.gixobj_actor.specs.ActorWriting.{IsCanonical, IsUnwritable}
use Rattle.gixobj_streams.specs.Streams.{AppendsPrefix, SinkView}
use Rattle.gixobj_streams.specs.declared.encode.Error.{Error}
use Rattle.gixobj_streams.specs.declared.encode.Error.TheVariants as error
use Rattle.gixobj_tag.specs.NameRule.{BeginsWithDash, HasNoFault, IsFirstFault}
use Rattle.gixobj_tag.specs.TagFormat.{TagLines}
use Rattle.gixobj_grammar.specs.TagBodies.{are_newlines}

-- the tag is encoded as it was decoded: it is unsigned, or its message isn't newlines alone
abbrev pub PreservesBody : TagLines → Type 0
PreservesBody tag = (tag.signature ≡ None) ⊎ IsFalse (are_newlines tag.message)

-- the value of the tagger line as an owned tag writes it, or none without a line
pub data IsCanonicalTagger : Option (List ℕ) → Option (List ℕ) → Type 0 where
  no_tagger : IsCanonicalTagger None None
  canonical_tagger : (line written : List ℕ) → IsCanonical line written → IsCanonicalTagger (Some line) (Some written)

-- the fields of a tag's owned form: the id in lower case, the tagger as it is written, the others unchanged
pub record AreNormalizedPartsOfTag (tag own : TagLines) : Type 0 where
  pub target : own.target ≡ str_to_ascii_lowercase tag.target
  pub target_kind : own.target_kind ≡ tag.target_kind
  pub name : own.name ≡ tag.name
  pub tagger : IsCanonicalTagger tag.tagger own.tagger
  pub message : own.message ≡ tag.message
  pub signature : own.signature ≡ tag.signature

-- the tag has a tagger whose name or email can't be written
abbrev pub HasUnwritableTagger : TagLines → Type 0
HasUnwritableTagger tag = (line : List ℕ) × (tag.tagger ≡ Some line) × IsUnwritable line

-- the error of writing a tag's owned form. Writer: the sink failed after a proper prefix; InvalidRefName or
-- StartsWithDash: the name is invalid; IllegalActor: the tagger can't be written
abbrev pub IsNormalizedTagError : TagLines → SinkView → SinkView → List ℕ → Error → Type 0
IsNormalizedTagError tag before after bytes (error.Writer cause) = AppendsPrefix before after bytes cause
IsNormalizedTagError tag before after bytes (error.InvalidRefName fault) = IsFirstFault tag.name fault
IsNormalizedTagError tag before after bytes error.StartsWithDash = HasNoFault tag.name × BeginsWithDash tag.name
IsNormalizedTagError tag before after bytes error.IllegalActor = HasUnwritableTagger tag
IsNormalizedTagError tag before after bytes _ = ⊥
