-- Checks list messages of some kind alone.
use Rattle.std.proofs.Common.{◌≡◌, ◌∷◌, ◌++◌, [], ℕ, Bool, true, false, All, List, Err, Some, None, inl, inr, sym, subst}
use Rattle.std.specs.Prelude.{Option, Result, if◌then◌else◌}
use Rattle.std.proofs.lemmas.List.Elements.{All-push}
use Rattle.gixobj_fsck.specs.Actors.{ActorPart}
use Rattle.gixobj_fsck_messages.specs.Severities.{is_reported}
use Rattle.gixobj_fsck_messages.specs.declared.finding.Finding.{Finding}
use Rattle.gixobj_fsck_messages.specs.declared.message.Message.{Message}
use Rattle.gixobj_fsck_messages.specs.declared.message.Message.TheVariants as message
use Rattle.gixobj_fsck_messages.specs.declared.severity.Severity.{Severity}
use Rattle.gixobj_fsck_findings.specs.Checks.{AndThen, Check, EndsAtFault, finding_of, listed, offset_of}
use Rattle.gixobj_fsck_findings.specs.LineChecks.{ActorLineCheck, HeaderCheck, IsHeaderOffset}
use Rattle.gixobj_fsck_object_laws.specs.Reported.{IsAboutActors}

-- the findings have such messages alone
abbrev pub AreOf : (Message → Type 0) → List Finding → Type 0
AreOf Is findings = All (λ (it : Finding). Is it.message) findings

-- the check of this input lists such messages alone
abbrev pub KeepsAt : (Message → Type 0) → Check → List ℕ → Type 0
KeepsAt Is Part input = (before after : List Finding) (outcome : Option (List ℕ)) → Part input before after outcome → AreOf Is before → AreOf Is after

-- the check lists such messages alone
abbrev pub Keeps : (Message → Type 0) → Check → Type 0
Keeps Is Part = (input : List ℕ) → KeepsAt Is Part input

pub keeps_listed : (Is : Message → Type 0) (severity : Message → Severity) (it : Message) (offset : ℕ) (before after : List Finding)
    → after ≡ listed severity it offset before → Is it → AreOf Is before → AreOf Is after
keeps_listed Is severity it offset before after same is are = subst (AreOf Is) (sym same) (go (is_reported (severity it)))
  where
    go : (test : Bool) → AreOf Is (if test then before ++ finding_of it offset ∷ [] else before)
    go true = All-push (λ (f : Finding). Is f.message) before (finding_of it offset) are is
    go false = are

pub keeps_same : (Is : Message → Type 0) (before after : List Finding) → after ≡ before → AreOf Is before → AreOf Is after
keeps_same Is before after same are = subst (AreOf Is) (sym same) are

pub keeps_and_then : (Is : Message → Type 0) (First Second : Check) → Keeps Is First → Keeps Is Second → Keeps Is (AndThen First Second)
keeps_and_then Is First Second first second input before after outcome (inl a) are = first input before after None a.0 are
keeps_and_then Is First Second first second input before after outcome (inr a) are =
    second a.0 a.1 after outcome a.3 (first input before a.1 (Some a.0) a.2 are)

-- ---- headers and lines

header_fault : (Is : Message → Type 0) (input : List ℕ) (fault : Message) (offset : ℕ) → Is message.NulInHeader → Is message.UnterminatedHeader
    → IsHeaderOffset input fault offset → Is fault
header_fault Is input fault offset zero end (inl a) = subst Is (sym a.0) zero
header_fault Is input fault offset zero end (inr a) = subst Is (sym a.0) end

pub keeps_header : (Is : Message → Type 0) (severity : Message → Severity) → Is message.NulInHeader → Is message.UnterminatedHeader
    → Keeps Is (HeaderCheck severity)
keeps_header Is severity zero end input before after outcome (inl a) are = keeps_same Is before after a.1 are
keeps_header Is severity zero end input before after outcome (inr a) are =
    keeps_listed Is severity a.0 a.1 before after a.4 (header_fault Is input a.0 a.1 zero end a.3) are

pub keeps_ends : (Is : Message → Type 0) (severity : Message → Severity) (object : List ℕ) (Part : List ℕ → Result (List ℕ) Message → Type 0)
    → ((input : List ℕ) (fault : Message) → Part input (Err fault) → Is fault) → Keeps Is (EndsAtFault severity object Part)
keeps_ends Is severity object Part is input before after outcome (inl a) are = keeps_same Is before after a.2 are
keeps_ends Is severity object Part is input before after outcome (inr a) are =
    keeps_listed Is severity a.0 (offset_of object input) before after a.2 (is input a.0 a.1) are

-- the fault of an actor is about actors
pub fault_of_actor : (actor : List ℕ) (fault : Message) → ActorPart actor (Err fault) → IsAboutActors fault
fault_of_actor actor fault (inl (inl a)) = subst IsAboutActors (sym a.1) tt
fault_of_actor actor fault (inl (inr (inl a))) = subst IsAboutActors (sym a.3) tt
fault_of_actor actor fault (inl (inr (inr (inl a)))) = subst IsAboutActors (sym a.5) tt
fault_of_actor actor fault (inl (inr (inr (inr a)))) = subst IsAboutActors (sym a.5) tt
fault_of_actor actor fault (inr (b, n, inl a)) = subst IsAboutActors (sym a.4) tt
fault_of_actor actor fault (inr (b, n, inr (c, e, inl (inl a)))) = subst IsAboutActors (sym a.1) tt
fault_of_actor actor fault (inr (b, n, inr (c, e, inl (inr a)))) = subst IsAboutActors (sym a.3) tt
fault_of_actor actor fault (inr (b, n, inr (c, e, inr (d, s, inl (inl a))))) = subst IsAboutActors (sym a.4) tt
fault_of_actor actor fault (inr (b, n, inr (c, e, inr (d, s, inl (inr (inl a)))))) = subst IsAboutActors (sym a.1) tt
fault_of_actor actor fault (inr (b, n, inr (c, e, inr (d, s, inl (inr (inr a)))))) = subst IsAboutActors (sym a.5) tt
fault_of_actor actor fault (inr (b, n, inr (c, e, inr (d, s, inr (f, m, a))))) = subst IsAboutActors (sym a.1) tt

pub keeps_actor_line : (Is : Message → Type 0) (severity : Message → Severity) (object name : List ℕ) → ((it : Message) → IsAboutActors it → Is it)
    → Keeps Is (ActorLineCheck severity object name)
keeps_actor_line Is severity object name about input before after outcome (actor, joined, (rest, line, inl a)) are = keeps_same Is before after a.2 are
keeps_actor_line Is severity object name about input before after outcome (actor, joined, (rest, line, inr a)) are =
    keeps_listed Is severity a.0 (offset_of object input) before after a.2 (about a.0 (fault_of_actor actor a.0 a.1)) are
