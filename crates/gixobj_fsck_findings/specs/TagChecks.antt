-- The findings of git-fsck about a tag, in their order (git-fsck, "FSCK MESSAGES"; git-config, `fsck.<msg-id>`). A
-- message is at the offset of its line, or of where a missing line was expected; that of a zero byte at the byte; that
-- of a header without an end at the end of the tag.
use Rattle.std.specs.Prelude.{◌≡◌, ◌⊎◌, ◌∷◌, ◌++◌, [], ◌↔◌, ℕ, Bool, Contains, List, Some, None, Ok, Err, codes}
use Rattle.gixobj_hash.specs.Bytes.{newline, space}
use Rattle.gixobj_hash.specs.HeaderFormat.{BeginsWithField, BeginsWithNoField, BeginsWithOtherName}
use Rattle.gixobj_hash.specs.Kind.{IsUnknownKindName, kind_name}
use Rattle.gixobj_hash.specs.declared.hash.kind.Kind.{Kind}
use Rattle.gixobj_hash.specs.declared.kind.Kind.{Kind as ObjectKind}
use Rattle.gixobj_fsck.specs.Actors.{ActorPart, IsAfterLine}
use Rattle.gixobj_fsck.specs.Dates.{BeginsWithByte}
use Rattle.gixobj_fsck.specs.Lines.{BeginsWithName, IdLine}
use Rattle.gixobj_fsck_messages.specs.declared.finding.Finding.{Finding}
use Rattle.gixobj_fsck_messages.specs.declared.message.Message.{Message}
use Rattle.gixobj_fsck_messages.specs.declared.message.Message.TheVariants as message
use Rattle.gixobj_fsck_messages.specs.declared.severity.Severity.{Severity}
use Rattle.gixobj_fsck_tags.specs.Tags.{IsTagMessage}
use Rattle.gixobj_tag.specs.NameRule.{HasNoFault}
use Rattle.gixobj_fsck_findings.specs.Checks.{AndThen, Check, EndsAtFault, HaveDocumentedSeverities, listed}
use Rattle.gixobj_fsck_findings.specs.Checks.{messages_of, offset_of, rest_after}
use Rattle.gixobj_fsck_findings.specs.LineChecks.{HeaderCheck}

-- the fault of a line that isn't the field of this name: another line, or one without a newline
abbrev pub IsFieldFault : List ℕ → Message → Message → List ℕ → Message → Type 0
IsFieldFault name missing unended input fault = (BeginsWithOtherName name input × (fault ≡ missing))
    ⊎ (BeginsWithName name input × BeginsWithNoField name input × (fault ≡ unended))

-- the line of this name doesn't come, and the check ends
abbrev pub NoFieldCheck : (Message → Severity) → List ℕ → List ℕ → Message → Message → Check
NoFieldCheck severity object name missing unended input before after outcome = (fault : Message)
    × IsFieldFault name missing unended input fault
    × (after ≡ listed severity fault (offset_of object input) before) × (outcome ≡ None)

-- the line `type ` with the name of a kind; an unknown kind may not count as an error
abbrev pub TypeCheck : (Message → Severity) → List ℕ → Check
TypeCheck severity object input before after outcome =
    NoFieldCheck severity object (codes "type") message.MissingTypeEntry message.MissingType input before after outcome
    ⊎ ((kind : ObjectKind) × (rest : List ℕ) × BeginsWithField (codes "type") input (kind_name kind) rest
    × (after ≡ before) × (outcome ≡ Some rest))
    ⊎ ((value rest : List ℕ) × BeginsWithField (codes "type") input value rest × IsUnknownKindName value
    × (after ≡ listed severity message.BadType (offset_of object input) before)
    × (outcome ≡ rest_after severity message.BadType rest))

-- the line `tag ` with a name, which is a reference's after `refs/tags/`; another may not count as an error
abbrev pub NameCheck : (Message → Severity) → List ℕ → Check
NameCheck severity object input before after outcome =
    NoFieldCheck severity object (codes "tag") message.MissingTagEntry message.MissingTag input before after outcome
    ⊎ ((name rest : List ℕ) × BeginsWithField (codes "tag") input name rest × HasNoFault name × (after ≡ before)
    × (outcome ≡ Some rest))
    ⊎ ((name rest : List ℕ) × BeginsWithField (codes "tag") input name rest × (¬ HasNoFault name)
    × (after ≡ listed severity message.BadTagName (offset_of object input) before)
    × (outcome ≡ rest_after severity message.BadTagName rest))

-- the tagger's line, or none, which may not count as an error; after a fault of the tagger the check goes on always
abbrev pub TaggerCheck : (Message → Severity) → List ℕ → Check
TaggerCheck severity object input before after outcome =
    (BeginsWithOtherName (codes "tagger") input
    × (after ≡ listed severity message.MissingTaggerEntry (offset_of object input) before)
    × (outcome ≡ rest_after severity message.MissingTaggerEntry input))
    ⊎ ((actor rest : List ℕ) × (input ≡ codes "tagger" ++ space ∷ actor) × IsAfterLine actor rest
    × (outcome ≡ Some rest) × (((sound : List ℕ) × ActorPart actor (Ok sound) × (after ≡ before))
    ⊎ ((fault : Message) × ActorPart actor (Err fault)
    × (after ≡ listed severity fault (offset_of object input) before))))

-- the input is empty, or an empty line comes
abbrev pub EndsHeaders : List ℕ → Type 0
EndsHeaders input = (input ≡ []) ⊎ BeginsWithByte newline input

-- the header ends here, or another one comes; the check ends
abbrev pub ExtraCheck : (Message → Severity) → List ℕ → Check
ExtraCheck severity object input before after outcome = (outcome ≡ None) × ((EndsHeaders input × (after ≡ before))
    ⊎ ((¬ EndsHeaders input) × (after ≡ listed severity message.ExtraHeaderEntry (offset_of object input) before)))

-- the name, the tagger, and the end of the header
abbrev pub NamesCheck : (Message → Severity) → List ℕ → Check
NamesCheck severity object = AndThen (NameCheck severity object)
    (AndThen (TaggerCheck severity object) (ExtraCheck severity object))

-- all of a tag
abbrev pub TagCheck : (Message → Severity) → Kind → List ℕ → Check
TagCheck severity kind object = AndThen (HeaderCheck severity)
    (AndThen (EndsAtFault severity object (IdLine (codes "object") kind message.MissingObject message.BadObjectSha1))
    (AndThen (TypeCheck severity object) (NamesCheck severity object)))

-- the findings of git-fsck about the tag, by the severity of each message
abbrev pub AreTagFindings : (Message → Severity) → Kind → List ℕ → List Finding → Type 0
AreTagFindings severity kind tag findings = TagCheck severity kind tag tag [] findings None

-- the findings about the tag are unique
abbrev pub HaveUniqueTagFindings : (Message → Severity) → Kind → List ℕ → Type 0
HaveUniqueTagFindings severity kind tag = (one other : List Finding)
    → AreTagFindings severity kind tag one → AreTagFindings severity kind tag other → one ≡ other

-- in a check without overrides the findings about the tag have the messages that git reports, as a set
abbrev pub HaveTagMessages : Bool → (Message → Severity) → Kind → List ℕ → Type 0
HaveTagMessages strict severity kind tag = HaveDocumentedSeverities strict severity
    → (findings : List Finding) → AreTagFindings severity kind tag findings
    → (it : Message) → Contains (messages_of findings) it ↔ IsTagMessage kind tag it
