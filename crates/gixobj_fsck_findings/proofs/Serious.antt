-- Without overrides the faults of lines count as errors, and so each check agrees with the part of its first fault.
use Rattle.std.proofs.Common.{◌≡◌, ◌⊎◌, ◌∷◌, ◌++◌, [], ℕ, Bool, true, false, List, Ok, Err, Some, None, inl, inr, ap, subst, ◌∙◌}
use Rattle.std.specs.Prelude.{Option, Result, if◌then◌else◌}
use Rattle.gixobj_fsck.specs.Actors.{ActorPart}
use Rattle.gixobj_fsck.specs.Headers.{HeaderPart}
use Rattle.gixobj_fsck.specs.Lines.{ActorLine}
use Rattle.gixobj_fsck.specs.Steps.{Then}
use Rattle.gixobj_fsck_messages.specs.Severities.{counts_as_error, documented_severity, is_reported, made_strict, severity_of}
use Rattle.gixobj_fsck_messages.specs.declared.finding.Finding.{Finding}
use Rattle.gixobj_fsck_messages.specs.declared.message.Message.{Message}
use Rattle.gixobj_fsck_messages.specs.declared.message.Message.TheVariants as message
use Rattle.gixobj_fsck_messages.specs.declared.severity.Severity.{Severity}
use Rattle.gixobj_fsck_messages.specs.declared.severity.Severity.TheVariants as severities
use Rattle.gixobj_fsck_findings.specs.Checks.{AndThen, Check, EndsAtFault, HaveDocumentedSeverities, finding_of, listed, offset_of, rest_after}
use Rattle.gixobj_fsck_findings.specs.LineChecks.{ActorLineCheck, HeaderCheck, IsHeaderOffset}

-- the message is listed and counts as an error
pub record IsSerious (severity : Message → Severity) (it : Message) : Type 0 where
  pub reported : is_reported (severity it) ≡ true
  pub counts : counts_as_error (severity it) ≡ true

severity_of_error : (strict : Bool) (it : Message) → documented_severity it ≡ severities.Error → severity_of strict it ≡ severities.Error
severity_of_error true it same = ap (made_strict true) same
severity_of_error false it same = ap (made_strict false) same

severity_of_fatal : (strict : Bool) (it : Message) → documented_severity it ≡ severities.Fatal → severity_of strict it ≡ severities.Fatal
severity_of_fatal true it same = ap (made_strict true) same
severity_of_fatal false it same = ap (made_strict false) same

pub serious_error : (strict : Bool) (severity : Message → Severity) (it : Message) → HaveDocumentedSeverities strict severity
    → documented_severity it ≡ severities.Error → IsSerious severity it
serious_error strict severity it documented same = let e = documented it ∙ severity_of_error strict it same in
    record { reported = ap is_reported e; counts = ap counts_as_error e }

pub serious_fatal : (strict : Bool) (severity : Message → Severity) (it : Message) → HaveDocumentedSeverities strict severity
    → documented_severity it ≡ severities.Fatal → IsSerious severity it
serious_fatal strict severity it documented same = let e = documented it ∙ severity_of_fatal strict it same in
    record { reported = ap is_reported e; counts = ap counts_as_error e }

severity_of_info : (strict : Bool) (it : Message) → documented_severity it ≡ severities.Info → severity_of strict it ≡ severities.Info
severity_of_info true it same = ap (made_strict true) same
severity_of_info false it same = ap (made_strict false) same

-- a message for information is listed
pub info_list : (strict : Bool) (severity : Message → Severity) (it : Message) (offset : ℕ) (before : List Finding)
    → HaveDocumentedSeverities strict severity → documented_severity it ≡ severities.Info
    → listed severity it offset before ≡ before ++ finding_of it offset ∷ []
info_list strict severity it offset before documented same = let e = documented it ∙ severity_of_info strict it same in
    ap (λ (s : Severity). if is_reported s then before ++ finding_of it offset ∷ [] else before) e

-- the check goes on after a message for information
pub info_rest : (strict : Bool) (severity : Message → Severity) (it : Message) (rest : List ℕ) → HaveDocumentedSeverities strict severity
    → documented_severity it ≡ severities.Info → rest_after severity it rest ≡ Some rest
info_rest strict severity it rest documented same = let e = documented it ∙ severity_of_info strict it same in
    ap (λ (s : Severity). if counts_as_error s then None else Some rest) e

-- an extra header isn't listed
pub extra_list : (strict : Bool) (severity : Message → Severity) (offset : ℕ) (before : List Finding) → HaveDocumentedSeverities strict severity
    → listed severity message.ExtraHeaderEntry offset before ≡ before
extra_list true severity offset before documented =
    ap (λ (s : Severity). if is_reported s then before ++ finding_of message.ExtraHeaderEntry offset ∷ [] else before)
    (documented message.ExtraHeaderEntry)
extra_list false severity offset before documented =
    ap (λ (s : Severity). if is_reported s then before ++ finding_of message.ExtraHeaderEntry offset ∷ [] else before)
    (documented message.ExtraHeaderEntry)

-- a serious message is listed
pub serious_list : (severity : Message → Severity) (it : Message) (offset : ℕ) (before : List Finding) → IsSerious severity it
    → listed severity it offset before ≡ before ++ finding_of it offset ∷ []
serious_list severity it offset before serious =
    ap (λ (b : Bool). if b then before ++ finding_of it offset ∷ [] else before) serious.reported

-- the check ends at a serious message
pub serious_rest : (severity : Message → Severity) (it : Message) (rest : List ℕ) → IsSerious severity it → rest_after severity it rest ≡ None
serious_rest severity it rest serious = ap (λ (b : Bool). if b then None else Some rest) serious.counts

-- ---- agreement

-- the check has the outcome of the part: its rest, or its fault as the only finding
abbrev pub Follows : (List ℕ → Result (List ℕ) Message → Type 0) → Check → Type 0
Follows Part Checked = (input : List ℕ) (before after : List Finding) (outcome : Option (List ℕ)) → Checked input before after outcome
    → ((rest : List ℕ) × Part input (Ok rest) × (after ≡ before) × (outcome ≡ Some rest))
    ⊎ ((fault : Message) × (offset : ℕ) × Part input (Err fault) × (after ≡ before ++ finding_of fault offset ∷ []) × (outcome ≡ None))

pub and_then_follows : (P Q : List ℕ → Result (List ℕ) Message → Type 0) (First Second : Check) → Follows P First → Follows Q Second
    → Follows (Then P Q) (AndThen First Second)
and_then_follows P Q First Second first second input before after outcome (inl a) = elim (first input before after None a.0) [
  | inl f ↦ let e = f.3 in absurd (cc e)
  | inr f ↦ inr (f.0, f.1, inl f.2, f.3, a.1)
]
and_then_follows P Q First Second first second input before after outcome (inr a) = elim (first input before a.1 (Some a.0) a.2) [
  | inl f ↦ let e = f.3 in let at : a.0 ≡ f.0 = cc e in
      elim (second a.0 a.1 after outcome a.3) [
        | inl s ↦ inl (s.0, (f.0, f.1, subst (λ (i : List ℕ). Q i (Ok s.0)) at s.1), s.2 ∙ f.2, s.3)
        | inr s ↦ inr (
          s.0,
          s.1,
          inr (f.0, f.1, subst (λ (i : List ℕ). Q i (Err s.0)) at s.2),
          s.3 ∙ ap (λ (m : List Finding). m ++ finding_of s.0 s.1 ∷ []) f.2,
          s.4,
        )
      ]
  | inr f ↦ let e = f.4 in absurd (cc e)
]

-- a part whose faults are serious
pub ends_follows : (severity : Message → Severity) (object : List ℕ) (Part : List ℕ → Result (List ℕ) Message → Type 0)
    → ((input : List ℕ) (fault : Message) → Part input (Err fault) → IsSerious severity fault) → Follows Part (EndsAtFault severity object Part)
ends_follows severity object Part serious input before after outcome (inl a) = inl (a.0, a.1, a.2, a.3)
ends_follows severity object Part serious input before after outcome (inr a) =
    inr (a.0, offset_of object input, a.1, a.2 ∙ serious_list severity a.0 (offset_of object input) before (serious input a.0 a.1), a.3)

-- ---- headers and actors

fatal_header : (input : List ℕ) (fault : Message) (offset : ℕ) → IsHeaderOffset input fault offset → documented_severity fault ≡ severities.Fatal
fatal_header input fault offset (inl a) = ap documented_severity a.0
fatal_header input fault offset (inr a) = ap documented_severity a.0

pub header_follows : (strict : Bool) (severity : Message → Severity) → HaveDocumentedSeverities strict severity → Follows HeaderPart (HeaderCheck severity)
header_follows strict severity documented input before after outcome (inl a) = inl (input, a.0, a.1, a.2)
header_follows strict severity documented input before after outcome (inr a) =
    let serious = serious_fatal strict severity a.0 documented (fatal_header input a.0 a.1 a.3) in
    inr (a.0, a.1, a.2, a.4 ∙ serious_list severity a.0 a.1 before serious, a.5)

-- the fault of an actor is an error
pub error_actor : (actor : List ℕ) (fault : Message) → ActorPart actor (Err fault) → documented_severity fault ≡ severities.Error
error_actor actor fault (inl (inl a)) = ap documented_severity a.1
error_actor actor fault (inl (inr (inl a))) = ap documented_severity a.3
error_actor actor fault (inl (inr (inr (inl a)))) = ap documented_severity a.5
error_actor actor fault (inl (inr (inr (inr a)))) = ap documented_severity a.5
error_actor actor fault (inr (b, n, inl a)) = ap documented_severity a.4
error_actor actor fault (inr (b, n, inr (c, e, inl (inl a)))) = ap documented_severity a.1
error_actor actor fault (inr (b, n, inr (c, e, inl (inr a)))) = ap documented_severity a.3
error_actor actor fault (inr (b, n, inr (c, e, inr (d, s, inl (inl a))))) = ap documented_severity a.4
error_actor actor fault (inr (b, n, inr (c, e, inr (d, s, inl (inr (inl a)))))) = ap documented_severity a.1
error_actor actor fault (inr (b, n, inr (c, e, inr (d, s, inl (inr (inr a)))))) = ap documented_severity a.5
error_actor actor fault (inr (b, n, inr (c, e, inr (d, s, inr (f, m, a))))) = ap documented_severity a.1

pub actor_line_follows : (strict : Bool) (severity : Message → Severity) (object name : List ℕ) (missing : Message)
    → HaveDocumentedSeverities strict severity → Follows (ActorLine name missing) (ActorLineCheck severity object name)
actor_line_follows strict severity object name missing documented input before after outcome (actor, joined, (rest, line, inl a)) =
    inl (rest, (actor, a.0, joined, a.1, line), a.2, a.3)
actor_line_follows strict severity object name missing documented input before after outcome (actor, joined, (rest, line, inr a)) =
    let serious = serious_error strict severity a.0 documented (error_actor actor a.0 a.1) in
    inr (
      a.0,
      offset_of object input,
      inr (actor, joined, a.1),
      a.2 ∙ serious_list severity a.0 (offset_of object input) before serious,
      a.3 ∙ serious_rest severity a.0 rest serious,
    )

-- ---- the last check

-- the check has the fault of the part as its only finding, or goes on to the last check
abbrev pub FollowsTo : Check → (List ℕ → Result (List ℕ) Message → Type 0) → Check → Type 0
FollowsTo Last Part Checked = (input : List ℕ) (before after : List Finding) → Checked input before after None
    → ((rest : List ℕ) × Part input (Ok rest) × Last rest before after None)
    ⊎ ((fault : Message) × (offset : ℕ) × Part input (Err fault) × (after ≡ before ++ finding_of fault offset ∷ []))

pub last_follows : (Last : Check) (Part : List ℕ → Result (List ℕ) Message → Type 0) (Checked : Check)
    → Follows Part Checked → FollowsTo Last Part (AndThen Checked Last)
last_follows Last Part Checked follows input before after (inl a) = elim (follows input before after None a.0) [
  | inl f ↦ let e = f.3 in absurd (cc e)
  | inr f ↦ inr (f.0, f.1, f.2, f.3)
]
last_follows Last Part Checked follows input before after (inr a) = elim (follows input before a.1 (Some a.0) a.2) [
  | inl f ↦ let e = f.3 in let at : a.0 ≡ f.0 = cc e in
      inl (f.0, f.1, subst (λ (m : List Finding). Last f.0 m after None) f.2 (subst (λ (i : List ℕ). Last i a.1 after None) at a.3))
  | inr f ↦ let e = f.4 in absurd (cc e)
]

pub more_follows : (Last : Check) (P Q : List ℕ → Result (List ℕ) Message → Type 0) (First Second : Check)
    → Follows P First → FollowsTo Last Q Second → FollowsTo Last (Then P Q) (AndThen First Second)
more_follows Last P Q First Second first second input before after (inl a) = elim (first input before after None a.0) [
  | inl f ↦ let e = f.3 in absurd (cc e)
  | inr f ↦ inr (f.0, f.1, inl f.2, f.3)
]
more_follows Last P Q First Second first second input before after (inr a) = elim (first input before a.1 (Some a.0) a.2) [
  | inl f ↦ let e = f.3 in let at : a.0 ≡ f.0 = cc e in
      elim (second a.0 a.1 after a.3) [
        | inl s ↦ inl (
          s.0,
          (f.0, f.1, subst (λ (i : List ℕ). Q i (Ok s.0)) at s.1),
          subst (λ (m : List Finding). Last s.0 m after None) f.2 s.2,
        )
        | inr s ↦ inr (
          s.0,
          s.1,
          inr (f.0, f.1, subst (λ (i : List ℕ). Q i (Err s.0)) at s.2),
          s.3 ∙ ap (λ (m : List Finding). m ++ finding_of s.0 s.1 ∷ []) f.2,
        )
      ]
  | inr f ↦ let e = f.4 in absurd (cc e)
]
