-- Without overrides the findings about a tag have the messages that git reports.
use Rattle.std.proofs.Common.{◌≡◌, ◌∷◌, ◌++◌, [], ℕ, Bool, List, Ok, Err, Some, None, inl, inr, refl, sym, ap, subst, ◌∙◌}
use Rattle.std.specs.Prelude.{◌↔◌, Contains, Option, codes}
use Rattle.std.proofs.lemmas.List.{append-nil}
use Rattle.gixobj_hash.specs.HeaderFormat.{BeginsWithField}
use Rattle.gixobj_hash.specs.declared.hash.kind.Kind.{Kind}
use Rattle.gixobj_fsck.specs.Headers.{HeaderPart}
use Rattle.gixobj_fsck.specs.Lines.{IdLine}
use Rattle.gixobj_fsck.specs.Steps.{Then}
use Rattle.gixobj_fsck.proofs.Outcomes.{actor_line_deterministic}
use Rattle.gixobj_fsck_messages.specs.Severities.{documented_severity}
use Rattle.gixobj_fsck_messages.specs.declared.finding.Finding.{Finding}
use Rattle.gixobj_fsck_messages.specs.declared.message.Message.{Message}
use Rattle.gixobj_fsck_messages.specs.declared.message.Message.TheVariants as message
use Rattle.gixobj_fsck_messages.specs.declared.severity.Severity.{Severity}
use Rattle.gixobj_fsck_tags.specs.Tags.{IsBadName, IsTagMessage, NameLine, TaggerLine, TargetPart, TypeLine}
use Rattle.gixobj_fsck_tags.proofs.TagOutcomes.{messages_after_name, only_fault}
use Rattle.gixobj_fsck_findings.specs.Checks.{AndThen, EndsAtFault, HaveDocumentedSeverities, finding_of, messages_of, offset_of}
use Rattle.gixobj_fsck_findings.specs.LineChecks.{HeaderCheck}
use Rattle.gixobj_fsck_findings.specs.TagChecks.{ExtraCheck, HaveTagMessages, IsFieldFault, NameCheck, NamesCheck, TagCheck, TaggerCheck, TypeCheck}
use Rattle.gixobj_fsck_findings.proofs.Lists.{no_message_list, one_message_list, split_message_list}
use Rattle.gixobj_fsck_findings.proofs.Serious.{Follows, FollowsTo, IsSerious, ends_follows, error_actor, extra_list, header_follows, info_list, info_rest}
use Rattle.gixobj_fsck_findings.proofs.Serious.{last_follows, more_follows, serious_error, serious_list, serious_rest}

-- ---- up to the type

object_serious : (strict : Bool) (severity : Message → Severity) (kind : Kind) → HaveDocumentedSeverities strict severity → (input : List ℕ) (fault : Message)
    → IdLine (codes "object") kind message.MissingObject message.BadObjectSha1 input (Err fault) → IsSerious severity fault
object_serious strict severity kind documented input fault (inl a) = serious_error strict severity fault documented (ap documented_severity a.1)
object_serious strict severity kind documented input fault (inr a) = serious_error strict severity fault documented (ap documented_severity a.2)

type_fault : (input : List ℕ) (fault : Message) → IsFieldFault (codes "type") message.MissingTypeEntry message.MissingType input fault
    → TypeLine input (Err fault)
type_fault input fault (inl a) = inl a
type_fault input fault (inr a) = inr (inl a)

type_serious : (strict : Bool) (severity : Message → Severity) → HaveDocumentedSeverities strict severity → (input : List ℕ) (fault : Message)
    → IsFieldFault (codes "type") message.MissingTypeEntry message.MissingType input fault → IsSerious severity fault
type_serious strict severity documented input fault (inl a) = serious_error strict severity fault documented (ap documented_severity a.1)
type_serious strict severity documented input fault (inr a) = serious_error strict severity fault documented (ap documented_severity a.2)

type_follows : (strict : Bool) (severity : Message → Severity) (object : List ℕ) → HaveDocumentedSeverities strict severity
    → Follows TypeLine (TypeCheck severity object)
type_follows strict severity object documented input before after outcome (inl a) =
    inr (
      a.0,
      offset_of object input,
      type_fault input a.0 a.1,
      a.2 ∙ serious_list severity a.0 (offset_of object input) before (type_serious strict severity documented input a.0 a.1),
      a.3,
    )
type_follows strict severity object documented input before after outcome (inr (inl a)) = inl (a.1, (a.0, a.2), a.3, a.4)
type_follows strict severity object documented input before after outcome (inr (inr a)) =
    let serious = serious_error strict severity message.BadType documented refl in
    inr (
      message.BadType,
      offset_of object input,
      inr (inr (a.0, a.1, a.2, a.3, refl)),
      a.4 ∙ serious_list severity message.BadType (offset_of object input) before serious,
      a.5 ∙ serious_rest severity message.BadType a.1 serious,
    )

target_follows : (strict : Bool) (severity : Message → Severity) (kind : Kind) (object : List ℕ) → HaveDocumentedSeverities strict severity
    → FollowsTo (NamesCheck severity object) (TargetPart kind) (TagCheck severity kind object)
target_follows strict severity kind object documented =
    more_follows (NamesCheck severity object) HeaderPart
    (Then (IdLine (codes "object") kind message.MissingObject message.BadObjectSha1) TypeLine) (HeaderCheck severity)
    (AndThen (EndsAtFault severity object (IdLine (codes "object") kind message.MissingObject message.BadObjectSha1))
    (AndThen (TypeCheck severity object) (NamesCheck severity object))) (header_follows strict severity documented)
    (more_follows (NamesCheck severity object) (IdLine (codes "object") kind message.MissingObject message.BadObjectSha1) TypeLine
    (EndsAtFault severity object (IdLine (codes "object") kind message.MissingObject message.BadObjectSha1))
    (AndThen (TypeCheck severity object) (NamesCheck severity object))
    (ends_follows severity object (IdLine (codes "object") kind message.MissingObject message.BadObjectSha1)
    (object_serious strict severity kind documented))
    (last_follows (NamesCheck severity object) TypeLine (TypeCheck severity object) (type_follows strict severity object documented)))

-- ---- the name

name_fault : (input : List ℕ) (fault : Message) → IsFieldFault (codes "tag") message.MissingTagEntry message.MissingTag input fault
    → NameLine input (Err fault)
name_fault input fault (inl a) = inl a
name_fault input fault (inr a) = inr a

name_serious : (strict : Bool) (severity : Message → Severity) → HaveDocumentedSeverities strict severity → (input : List ℕ) (fault : Message)
    → IsFieldFault (codes "tag") message.MissingTagEntry message.MissingTag input fault → IsSerious severity fault
name_serious strict severity documented input fault (inl a) = serious_error strict severity fault documented (ap documented_severity a.1)
name_serious strict severity documented input fault (inr a) = serious_error strict severity fault documented (ap documented_severity a.2)

-- the check ends at the name only without its line
name_ends : (strict : Bool) (severity : Message → Severity) (object : List ℕ) → HaveDocumentedSeverities strict severity
    → (input : List ℕ) (before after : List Finding) → NameCheck severity object input before after None
    → (fault : Message) × (offset : ℕ) × NameLine input (Err fault) × (after ≡ before ++ finding_of fault offset ∷ [])
name_ends strict severity object documented input before after (inl a) = (
  a.0,
  offset_of object input,
  name_fault input a.0 a.1,
  a.2 ∙ serious_list severity a.0 (offset_of object input) before (name_serious strict severity documented input a.0 a.1),
)
name_ends strict severity object documented input before after (inr (inl a)) = let e = a.5 in absurd (cc e)
name_ends strict severity object documented input before after (inr (inr a)) =
    let e = a.5 ∙ info_rest strict severity message.BadTagName a.1 documented refl in absurd (cc e)

-- else the list has the message of the name
name_list : (strict : Bool) (severity : Message → Severity) (object : List ℕ) → HaveDocumentedSeverities strict severity
    → (input : List ℕ) (after : List Finding) (found : List ℕ) → NameCheck severity object input [] after (Some found)
    → (name : List ℕ) × BeginsWithField (codes "tag") input name found × ((it : Message) → Contains (messages_of after) it ↔ IsBadName name it)
name_list strict severity object documented input after found (inl a) = let e = a.3 in absurd (cc e)
name_list strict severity object documented input after found (inr (inl a)) =
    let e = a.5 in
    let rests : a.1 ≡ found = cc e in (
      a.0,
      subst (λ (i : List ℕ). BeginsWithField (codes "tag") input a.0 i) rests a.2,
      no_message_list after (IsBadName a.0) a.4 (λ it bad. bad.0 a.3),
    )
name_list strict severity object documented input after found (inr (inr a)) =
    let e = a.5 ∙ info_rest strict severity message.BadTagName a.1 documented refl in
    let rests : a.1 ≡ found = cc e in (
      a.0,
      subst (λ (i : List ℕ). BeginsWithField (codes "tag") input a.0 i) rests a.2,
      one_message_list after message.BadTagName (offset_of object input) (IsBadName a.0)
          (a.4 ∙ info_list strict severity message.BadTagName (offset_of object input) [] documented refl) (a.3, refl) (λ it is. is.1),
    )

-- ---- the tagger

-- the only fault of a tagger
only_tagger : (input : List ℕ) (fault : Message) → TaggerLine input (Err fault) → (it : Message) → TaggerLine input (Err it) → it ≡ fault
only_tagger input fault here it other =
    let e = actor_line_deterministic (codes "tagger") message.MissingTaggerEntry input (Err it) (Err fault) other here in cc e

-- a sound tagger has no fault
no_tagger_fault : (input rest : List ℕ) → TaggerLine input (Ok rest) → (it : Message) → TaggerLine input (Err it) → ⊥
no_tagger_fault input rest sound it other =
    let e = actor_line_deterministic (codes "tagger") message.MissingTaggerEntry input (Err it) (Ok rest) other sound in absurd (cc e)

-- the check goes on after the tagger, and the list has its message
tagger_list : (strict : Bool) (severity : Message → Severity) (object : List ℕ) → HaveDocumentedSeverities strict severity
    → (input : List ℕ) (before after : List Finding) (outcome : Option (List ℕ)) → TaggerCheck severity object input before after outcome
    → (rest : List ℕ) × (own : List Finding) × (outcome ≡ Some rest) × (after ≡ before ++ own)
    × ((it : Message) → Contains (messages_of own) it ↔ TaggerLine input (Err it))
tagger_list strict severity object documented input before after outcome (inl a) = (
  input,
  finding_of message.MissingTaggerEntry (offset_of object input) ∷ [],
  a.2 ∙ info_rest strict severity message.MissingTaggerEntry input documented refl,
  a.1 ∙ info_list strict severity message.MissingTaggerEntry (offset_of object input) before documented refl,
  one_message_list (finding_of message.MissingTaggerEntry (offset_of object input) ∷ []) message.MissingTaggerEntry (offset_of object input)
      (λ (it : Message). TaggerLine input (Err it)) refl (inl (a.0, refl)) (only_tagger input message.MissingTaggerEntry (inl (a.0, refl))),
)
tagger_list strict severity object documented input before after outcome (inr (actor, rest, joined, line, is, inl a)) = (
  rest,
  [],
  is,
  a.2 ∙ sym (append-nil before),
  no_message_list [] (λ (it : Message). TaggerLine input (Err it)) refl (no_tagger_fault input rest (actor, a.0, joined, a.1, line)),
)
tagger_list strict severity object documented input before after outcome (inr (actor, rest, joined, line, is, inr a)) = (
  rest,
  finding_of a.0 (offset_of object input) ∷ [],
  is,
  a.2 ∙ serious_list severity a.0 (offset_of object input) before (serious_error strict severity a.0 documented (error_actor actor a.0 a.1)),
  one_message_list (finding_of a.0 (offset_of object input) ∷ []) a.0 (offset_of object input) (λ (it : Message). TaggerLine input (Err it)) refl
      (inr (actor, joined, a.1)) (only_tagger input a.0 (inr (actor, joined, a.1))),
)

-- an extra header adds nothing
extra_adds_nothing : (strict : Bool) (severity : Message → Severity) (object : List ℕ) → HaveDocumentedSeverities strict severity
    → (input : List ℕ) (before after : List Finding) → ExtraCheck severity object input before after None → after ≡ before
extra_adds_nothing strict severity object documented input before after (e, inl a) = a.1
extra_adds_nothing strict severity object documented input before after (e, inr a) =
    a.1 ∙ extra_list strict severity (offset_of object input) before documented

-- the list after the name has the message of the tagger too
after_name_list : (strict : Bool) (severity : Message → Severity) (object : List ℕ) → HaveDocumentedSeverities strict severity
    → (input : List ℕ) (before after : List Finding)
    → AndThen (TaggerCheck severity object) (ExtraCheck severity object) input before after None
    → (own : List Finding) × (after ≡ before ++ own) × ((it : Message) → Contains (messages_of own) it ↔ TaggerLine input (Err it))
after_name_list strict severity object documented input before after (inl a) =
    let t = tagger_list strict severity object documented input before after None a.0 in let e = t.2 in absurd (cc e)
after_name_list strict severity object documented input before after (inr a) =
    let t = tagger_list strict severity object documented input before a.1 (Some a.0) a.2 in
    (t.1, extra_adds_nothing strict severity object documented a.0 a.1 after a.3 ∙ t.3, t.4)

-- ---- tags

-- the list of a tag whose lines up to the name come
names_list : (strict : Bool) (severity : Message → Severity) (kind : Kind) (tag : List ℕ) → HaveDocumentedSeverities strict severity
    → (start : List ℕ) (findings : List Finding) → TargetPart kind tag (Ok start) → NamesCheck severity tag start [] findings None
    → (it : Message) → Contains (messages_of findings) it ↔ IsTagMessage kind tag it
names_list strict severity kind tag documented start findings target (inl a) it =
    let n = name_ends strict severity tag documented start [] findings a.0 in
    one_message_list findings n.0 n.1 (IsTagMessage kind tag) n.3 (inl (inr (start, target, n.2)))
    (only_fault kind tag n.0 (inr (start, target, n.2))) it
names_list strict severity kind tag documented start findings target (inr a) it =
    let n = name_list strict severity tag documented start a.1 a.0 a.2 in
    let t = after_name_list strict severity tag documented a.0 a.1 findings a.3 in
    let both = split_message_list findings a.1 t.0 (IsBadName n.0) (λ (m : Message). TaggerLine a.0 (Err m)) t.1 n.2 t.2 it in
    let those = messages_after_name kind tag start n.0 a.0 it target n.1 in
    (λ has. those.1 (both.0 has), λ is. both.1 (those.0 is))

pub tag_lists : (strict : Bool) (severity : Message → Severity) (kind : Kind) (tag : List ℕ) → HaveTagMessages strict severity kind tag
tag_lists strict severity kind tag documented findings are it =
    elim (target_follows strict severity kind tag documented tag [] findings are) [
      | inl f ↦ names_list strict severity kind tag documented f.0 findings f.1 f.2 it
      | inr f ↦ one_message_list findings f.0 f.1 (IsTagMessage kind tag) f.3 (inl (inl f.2)) (only_fault kind tag f.0 (inl f.2)) it
    ]
