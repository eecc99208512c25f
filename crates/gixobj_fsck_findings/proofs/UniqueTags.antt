-- The findings about a tag are unique.
use Rattle.std.proofs.Common.{◌≡◌, ◌⊎◌, [], ℕ, List, Ok, Err, Some, None, inl, inr, refl, sym, ap, subst, ◌∙◌}
use Rattle.std.specs.Prelude.{codes}
use Rattle.gixobj_hash.specs.HeaderFormat.{BeginsWithField}
use Rattle.gixobj_hash.specs.Kind.{kind_name}
use Rattle.gixobj_hash.specs.declared.hash.kind.Kind.{Kind}
use Rattle.gixobj_parse.proofs.HeaderFields.{field_unique}
use Rattle.gixobj_fsck.specs.Actors.{ActorPart, IsAfterLine}
use Rattle.gixobj_fsck.specs.Lines.{IdLine}
use Rattle.gixobj_fsck.proofs.Outcomes.{actor_deterministic, after_line_unique, after_name_unique, id_line_deterministic}
use Rattle.gixobj_fsck_messages.specs.declared.finding.Finding.{Finding}
use Rattle.gixobj_fsck_messages.specs.declared.message.Message.{Message}
use Rattle.gixobj_fsck_messages.specs.declared.message.Message.TheVariants as message
use Rattle.gixobj_fsck_messages.specs.declared.severity.Severity.{Severity}
use Rattle.gixobj_tag.specs.NameRule.{HasNoFault}
use Rattle.gixobj_fsck_findings.specs.Checks.{AndThen, EndsAtFault, IsDeterministicCheck, listed, offset_of}
use Rattle.gixobj_fsck_findings.specs.LineChecks.{HeaderCheck}
use Rattle.gixobj_fsck_findings.specs.TagChecks.{AreTagFindings, ExtraCheck, IsFieldFault, NameCheck, NamesCheck, NoFieldCheck, TagCheck, TaggerCheck}
use Rattle.gixobj_fsck_findings.specs.TagChecks.{TypeCheck}
use Rattle.gixobj_fsck_findings.proofs.Unique.{and_then_deterministic, ends_deterministic, header_check_deterministic, name_of_field, same_list}
use Rattle.gixobj_fsck_findings.proofs.Unique.{same_rest_after}

-- ---- lines without a field

field_fault_unique : (name : List ℕ) (missing unended : Message) (input : List ℕ) (a b : Message) → IsFieldFault name missing unended input a
    → IsFieldFault name missing unended input b → a ≡ b
field_fault_unique name missing unended input a b (inl x) (inl y) = x.1 ∙ sym y.1
field_fault_unique name missing unended input a b (inl x) (inr y) = absurd (x.0 y.0.0 y.0.1)
field_fault_unique name missing unended input a b (inr x) (inl y) = absurd (y.0 x.0.0 x.0.1)
field_fault_unique name missing unended input a b (inr x) (inr y) = x.2 ∙ sym y.2

no_field_deterministic : (severity : Message → Severity) (object name : List ℕ) (missing unended : Message)
    → IsDeterministicCheck (NoFieldCheck severity object name missing unended)
no_field_deterministic severity object name missing unended input before one other x y a b =
    let faults = field_fault_unique name missing unended input a.0 b.0 a.1 b.1 in
    (a.2 ∙ same_list severity a.0 b.0 (offset_of object input) before faults ∙ sym b.2, a.3 ∙ sym b.3)

-- a field is no fault
no_fault_of_field : (name : List ℕ) (missing unended : Message) (input value rest : List ℕ) (fault : Message)
    → IsFieldFault name missing unended input fault → BeginsWithField name input value rest → ⊥
no_fault_of_field name missing unended input value rest fault (inl other) field =
    let named = name_of_field name input value rest field in other.0 named.0 named.1
no_fault_of_field name missing unended input value rest fault (inr none) field = none.1 value rest field

-- ---- the type and the name

type_deterministic : (severity : Message → Severity) (object : List ℕ) → IsDeterministicCheck (TypeCheck severity object)
type_deterministic severity object input before one other x y (inl a) (inl b) =
    no_field_deterministic severity object (codes "type") message.MissingTypeEntry message.MissingType input before one other x y a b
type_deterministic severity object input before one other x y (inl a) (inr (inl b)) =
    absurd (no_fault_of_field (codes "type") message.MissingTypeEntry message.MissingType input (kind_name b.0) b.1 a.0 a.1 b.2)
type_deterministic severity object input before one other x y (inl a) (inr (inr b)) =
    absurd (no_fault_of_field (codes "type") message.MissingTypeEntry message.MissingType input b.0 b.1 a.0 a.1 b.2)
type_deterministic severity object input before one other x y (inr (inl a)) (inl b) =
    absurd (no_fault_of_field (codes "type") message.MissingTypeEntry message.MissingType input (kind_name a.0) a.1 b.0 b.1 a.2)
type_deterministic severity object input before one other x y (inr (inr a)) (inl b) =
    absurd (no_fault_of_field (codes "type") message.MissingTypeEntry message.MissingType input a.0 a.1 b.0 b.1 a.2)
type_deterministic severity object input before one other x y (inr (inl a)) (inr (inl b)) =
    let same = (field_unique (codes "type") input (kind_name a.0) a.1 (kind_name b.0) b.1 a.2 b.2).1 in
    (a.3 ∙ sym b.3, a.4 ∙ ap Some same ∙ sym b.4)
type_deterministic severity object input before one other x y (inr (inl a)) (inr (inr b)) =
    absurd (b.3 a.0 (field_unique (codes "type") input b.0 b.1 (kind_name a.0) a.1 b.2 a.2).0)
type_deterministic severity object input before one other x y (inr (inr a)) (inr (inl b)) =
    absurd (a.3 b.0 (field_unique (codes "type") input a.0 a.1 (kind_name b.0) b.1 a.2 b.2).0)
type_deterministic severity object input before one other x y (inr (inr a)) (inr (inr b)) =
    let same = (field_unique (codes "type") input a.0 a.1 b.0 b.1 a.2 b.2).1 in
    (a.4 ∙ sym b.4, a.5 ∙ same_rest_after severity message.BadType message.BadType a.1 b.1 refl same ∙ sym b.5)

name_deterministic : (severity : Message → Severity) (object : List ℕ) → IsDeterministicCheck (NameCheck severity object)
name_deterministic severity object input before one other x y (inl a) (inl b) =
    no_field_deterministic severity object (codes "tag") message.MissingTagEntry message.MissingTag input before one other x y a b
name_deterministic severity object input before one other x y (inl a) (inr (inl b)) =
    absurd (no_fault_of_field (codes "tag") message.MissingTagEntry message.MissingTag input b.0 b.1 a.0 a.1 b.2)
name_deterministic severity object input before one other x y (inl a) (inr (inr b)) =
    absurd (no_fault_of_field (codes "tag") message.MissingTagEntry message.MissingTag input b.0 b.1 a.0 a.1 b.2)
name_deterministic severity object input before one other x y (inr (inl a)) (inl b) =
    absurd (no_fault_of_field (codes "tag") message.MissingTagEntry message.MissingTag input a.0 a.1 b.0 b.1 a.2)
name_deterministic severity object input before one other x y (inr (inr a)) (inl b) =
    absurd (no_fault_of_field (codes "tag") message.MissingTagEntry message.MissingTag input a.0 a.1 b.0 b.1 a.2)
name_deterministic severity object input before one other x y (inr (inl a)) (inr (inl b)) =
    let same = (field_unique (codes "tag") input a.0 a.1 b.0 b.1 a.2 b.2).1 in (a.4 ∙ sym b.4, a.5 ∙ ap Some same ∙ sym b.5)
name_deterministic severity object input before one other x y (inr (inl a)) (inr (inr b)) =
    let same = (field_unique (codes "tag") input a.0 a.1 b.0 b.1 a.2 b.2).0 in
    absurd (b.3 (subst (λ (i : List ℕ). HasNoFault i) same a.3))
name_deterministic severity object input before one other x y (inr (inr a)) (inr (inl b)) =
    let same = (field_unique (codes "tag") input a.0 a.1 b.0 b.1 a.2 b.2).0 in
    absurd (a.3 (subst (λ (i : List ℕ). HasNoFault i) (sym same) b.3))
name_deterministic severity object input before one other x y (inr (inr a)) (inr (inr b)) =
    let same = (field_unique (codes "tag") input a.0 a.1 b.0 b.1 a.2 b.2).1 in
    (a.4 ∙ sym b.4, a.5 ∙ same_rest_after severity message.BadTagName message.BadTagName a.1 b.1 refl same ∙ sym b.5)

-- ---- the tagger and extra headers

-- the list after a tagger
after_tagger_unique : (severity : Message → Severity) (offset : ℕ) (actor : List ℕ) (before one other : List Finding)
    → ((sound : List ℕ) × ActorPart actor (Ok sound) × (one ≡ before))
    ⊎ ((fault : Message) × ActorPart actor (Err fault) × (one ≡ listed severity fault offset before))
    → ((sound : List ℕ) × ActorPart actor (Ok sound) × (other ≡ before))
    ⊎ ((fault : Message) × ActorPart actor (Err fault) × (other ≡ listed severity fault offset before))
    → one ≡ other
after_tagger_unique severity offset actor before one other (inl a) (inl b) = a.2 ∙ sym b.2
after_tagger_unique severity offset actor before one other (inl a) (inr b) =
    let e = actor_deterministic actor (Ok a.0) (Err b.0) a.1 b.1 in absurd (cc e)
after_tagger_unique severity offset actor before one other (inr a) (inl b) =
    let e = actor_deterministic actor (Err a.0) (Ok b.0) a.1 b.1 in absurd (cc e)
after_tagger_unique severity offset actor before one other (inr a) (inr b) =
    let e = actor_deterministic actor (Err a.0) (Err b.0) a.1 b.1 in
    let faults : a.0 ≡ b.0 = cc e in a.2 ∙ same_list severity a.0 b.0 offset before faults ∙ sym b.2

tagger_deterministic : (severity : Message → Severity) (object : List ℕ) → IsDeterministicCheck (TaggerCheck severity object)
tagger_deterministic severity object input before one other x y (inl a) (inl b) = (a.1 ∙ sym b.1, a.2 ∙ sym b.2)
tagger_deterministic severity object input before one other x y (inl a) (inr b) = absurd (a.0 b.0 b.2)
tagger_deterministic severity object input before one other x y (inr a) (inl b) = absurd (b.0 a.0 a.2)
tagger_deterministic severity object input before one other x y (inr a) (inr b) =
    let same = after_name_unique (codes "tagger") input a.0 b.0 a.2 b.2 in
    let rests = after_line_unique b.0 a.1 b.1 (subst (λ (i : List ℕ). IsAfterLine i a.1) same a.3) b.3 in (
      after_tagger_unique severity (offset_of object input) b.0 before one other
          (subst (λ (i : List ℕ). ((sound : List ℕ) × ActorPart i (Ok sound) × (one ≡ before))
          ⊎ ((fault : Message) × ActorPart i (Err fault) × (one ≡ listed severity fault (offset_of object input) before))) same a.5) b.5,
      a.4 ∙ ap Some rests ∙ sym b.4,
    )

extra_deterministic : (severity : Message → Severity) (object : List ℕ) → IsDeterministicCheck (ExtraCheck severity object)
extra_deterministic severity object input before one other x y (e, inl a) (e', inl b) = (a.1 ∙ sym b.1, e ∙ sym e')
extra_deterministic severity object input before one other x y (e, inl a) (e', inr b) = absurd (b.0 a.0)
extra_deterministic severity object input before one other x y (e, inr a) (e', inl b) = absurd (a.0 b.0)
extra_deterministic severity object input before one other x y (e, inr a) (e', inr b) = (a.1 ∙ sym b.1, e ∙ sym e')

-- ---- tags

pub tag_check_deterministic : (severity : Message → Severity) (kind : Kind) (object : List ℕ) → IsDeterministicCheck (TagCheck severity kind object)
tag_check_deterministic severity kind object =
    and_then_deterministic (HeaderCheck severity)
    (AndThen (EndsAtFault severity object (IdLine (codes "object") kind message.MissingObject message.BadObjectSha1))
    (AndThen (TypeCheck severity object) (NamesCheck severity object))) (header_check_deterministic severity)
    (and_then_deterministic (EndsAtFault severity object (IdLine (codes "object") kind message.MissingObject message.BadObjectSha1))
    (AndThen (TypeCheck severity object) (NamesCheck severity object))
    (ends_deterministic severity object (IdLine (codes "object") kind message.MissingObject message.BadObjectSha1)
    (id_line_deterministic (codes "object") kind message.MissingObject message.BadObjectSha1))
    (and_then_deterministic (TypeCheck severity object) (NamesCheck severity object) (type_deterministic severity object)
    (and_then_deterministic (NameCheck severity object) (AndThen (TaggerCheck severity object) (ExtraCheck severity object))
    (name_deterministic severity object)
    (and_then_deterministic (TaggerCheck severity object) (ExtraCheck severity object) (tagger_deterministic severity object)
    (extra_deterministic severity object)))))

pub tag_findings_unique : (severity : Message → Severity) (kind : Kind) (tag : List ℕ) (one other : List Finding)
    → AreTagFindings severity kind tag one → AreTagFindings severity kind tag other → one ≡ other
tag_findings_unique severity kind tag one other first second =
    (tag_check_deterministic severity kind tag tag [] one other None None first second).0
