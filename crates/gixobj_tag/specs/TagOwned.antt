-- Decoded taggers, owned tags, and the error of a copy (gitdatamodel, "tag objects").
use Rattle.std.specs.Prelude.{◌≡◌, ℕ, List, Option, Some, None, ⊤}
use Rattle.bstr.specs.Owned.{bstring_bytes}
use Rattle.gixobj_actor.specs.Actor.{IsActorOf, IsNoActor, IsOwnedActor, IsTrimmedActor, NamesActor, actor_view}
use Rattle.gixobj_actor.specs.declared.actor.Signature.{Signature}
use Rattle.gixobj_actor.specs.declared.actor.SignatureRef.{SignatureRef}
use Rattle.gixobj_hash.specs.Hash.{DecodesToId}
use Rattle.gixobj_hash.specs.declared.decode.Error.{Error}
use Rattle.gixobj_hash.specs.declared.decode.Error.TheVariants.{Malformed, OutOfMemory}
use Rattle.gixobj_tag.specs.TagFormat.{TagLines}
use Rattle.gixobj_tag.specs.declared.tag.Tag.{Tag}
use Rattle.gixobj_hash.specs.Optional.{owned_bytes_if_some}

-- the actor of the tagger line, trimmed, or none without a line
abbrev pub IsTrimmedTagger : Option (List ℕ) → Option SignatureRef → Type 0
IsTrimmedTagger None None = ⊤
IsTrimmedTagger (Some line) (Some actor) = IsTrimmedActor line actor
IsTrimmedTagger None (Some actor) = ⊥
IsTrimmedTagger (Some line) None = ⊥

-- the actor of the tagger line, untrimmed, or none without a line
abbrev pub IsTagger : Option (List ℕ) → Option SignatureRef → Type 0
IsTagger None None = ⊤
IsTagger (Some line) (Some actor) = IsActorOf line (actor_view actor)
IsTagger None (Some actor) = ⊥
IsTagger (Some line) None = ⊥

-- there is a tagger line that is malformed, or in which bytes follow the time of its actor
abbrev pub IsBadTagger : Option (List ℕ) → Type 0
IsBadTagger None = ⊥
IsBadTagger (Some line) = IsNoActor line

-- the tagger line, if there is one, is an actor, and nothing follows its time
abbrev pub IsGoodTagger : Option (List ℕ) → Type 0
IsGoodTagger None = ⊤
IsGoodTagger (Some line) = NamesActor line

-- the actor of the tagger line, untrimmed, with its decoded time or the default one; or none without a line
abbrev pub IsOwnedTagger : Option (List ℕ) → Option Signature → Type 0
IsOwnedTagger None None = ⊤
IsOwnedTagger (Some line) (Some actor) = IsOwnedActor line actor
IsOwnedTagger None (Some actor) = ⊥
IsOwnedTagger (Some line) None = ⊥

-- the owned tag has these fields: the decoded id and tagger, and copies of the others
pub record IsOwnedFormOfTag (lines : TagLines) (tag : Tag) : Type 0 where
  pub target : DecodesToId lines.target tag.target
  pub target_kind : tag.target_kind ≡ lines.target_kind
  pub name : bstring_bytes tag.name ≡ lines.name
  pub tagger : IsOwnedTagger lines.tagger tag.tagger
  pub message : bstring_bytes tag.message ≡ lines.message
  pub signature : owned_bytes_if_some tag.signature ≡ lines.signature

-- Malformed: the tagger line is malformed, or bytes follow its time; OutOfMemory: the tagger line is valid or absent,
-- and an allocation failed
abbrev pub IsIntoOwnedTagError : TagLines → Error → Type 0
IsIntoOwnedTagError lines Malformed = IsBadTagger lines.tagger
IsIntoOwnedTagError lines OutOfMemory = IsGoodTagger lines.tagger
