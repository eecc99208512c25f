-- The checks that commits and tags have in common have at most one result.
use Rattle.std.proofs.Common.{◌≡◌, ◌∷◌, ◌++◌, ℕ, List, Ok, Err, Some, None, inl, inr, sym, ap, subst, ◌∙◌, length, append_assoc}
use Rattle.std.specs.Prelude.{Result}
use Rattle.gixobj_hash.specs.HeaderFormat.{BeginsWithField}
use Rattle.gixobj_hash.proofs.Splits.{splits_at_unique}
use Rattle.gixobj_fsck.specs.Lines.{BeginsWithName}
use Rattle.gixobj_fsck.specs.Steps.{IsDeterministic}
use Rattle.gixobj_fsck.proofs.Outcomes.{actor_deterministic, after_line_unique, after_name_unique, header_deterministic}
use Rattle.gixobj_fsck_messages.specs.declared.finding.Finding.{Finding}
use Rattle.gixobj_fsck_messages.specs.declared.message.Message.{Message}
use Rattle.gixobj_fsck_messages.specs.declared.severity.Severity.{Severity}
use Rattle.gixobj_fsck_findings.specs.Checks.{AndThen, Check, EndsAtFault, IsDeterministicCheck, listed, offset_of, rest_after}
use Rattle.gixobj_fsck_findings.specs.LineChecks.{ActorCheck, ActorLineCheck, HeaderCheck, IsFirstByteAt, IsHeaderOffset}

-- equal faults at equal rests lead to equal lists
pub same_list : (severity : Message → Severity) (a b : Message) (offset : ℕ) (before : List Finding) → a ≡ b
    → listed severity a offset before ≡ listed severity b offset before
same_list severity a b offset before same = ap (λ (m : Message). listed severity m offset before) same

-- equal faults lead to equal rests
pub same_rest_after : (severity : Message → Severity) (a b : Message) (x y : List ℕ) → a ≡ b → x ≡ y → rest_after severity a x ≡ rest_after severity b y
same_rest_after severity a b x y same rests =
    ap (λ (m : Message). rest_after severity m x) same ∙ ap (λ (i : List ℕ). rest_after severity b i) rests

-- a field begins with its name
pub name_of_field : (name input value rest : List ℕ) → BeginsWithField name input value rest → BeginsWithName name input
name_of_field name input value rest field = (value ++ 10 ∷ rest, field.joined ∙ simp append_assoc)

-- two checks with at most one result have at most one together
pub and_then_deterministic : (First Second : Check) → IsDeterministicCheck First → IsDeterministicCheck Second
    → IsDeterministicCheck (AndThen First Second)
and_then_deterministic First Second first second input before one other x y (inl a) (inl b) =
    let e = first input before one other None None a.0 b.0 in (e.0, a.1 ∙ sym b.1)
and_then_deterministic First Second first second input before one other x y (inl a) (inr b) =
    let e = (first input before one b.1 None (Some b.0) a.0 b.2).1 in absurd (cc e)
and_then_deterministic First Second first second input before one other x y (inr a) (inl b) =
    let e = (first input before a.1 other (Some a.0) None a.2 b.0).1 in absurd (cc e)
and_then_deterministic First Second first second input before one other x y (inr a) (inr b) =
    let e = first input before a.1 b.1 (Some a.0) (Some b.0) a.2 b.2 in
    let rests = e.1 in
    let at : a.0 ≡ b.0 = cc rests in
    second b.0 b.1 one other x y
    (subst (λ (m : List Finding). Second b.0 m one x) e.0 (subst (λ (i : List ℕ). Second i a.1 one x) at a.3)) b.3

-- a part with at most one outcome has at most one result
pub ends_deterministic : (severity : Message → Severity) (object : List ℕ) (Part : List ℕ → Result (List ℕ) Message → Type 0) → IsDeterministic Part
    → IsDeterministicCheck (EndsAtFault severity object Part)
ends_deterministic severity object Part part input before one other x y (inl a) (inl b) =
    let e = part input (Ok a.0) (Ok b.0) a.1 b.1 in
    let rests : a.0 ≡ b.0 = cc e in (a.2 ∙ sym b.2, a.3 ∙ ap Some rests ∙ sym b.3)
ends_deterministic severity object Part part input before one other x y (inl a) (inr b) =
    let e = part input (Ok a.0) (Err b.0) a.1 b.1 in absurd (cc e)
ends_deterministic severity object Part part input before one other x y (inr a) (inl b) =
    let e = part input (Err a.0) (Ok b.0) a.1 b.1 in absurd (cc e)
ends_deterministic severity object Part part input before one other x y (inr a) (inr b) =
    let e = part input (Err a.0) (Err b.0) a.1 b.1 in
    let faults : a.0 ≡ b.0 = cc e in
    (a.2 ∙ same_list severity a.0 b.0 (offset_of object input) before faults ∙ sym b.2, a.3 ∙ sym b.3)

-- ---- headers

-- a byte has one first occurrence
pub first_byte_unique : (byte : ℕ) (input : List ℕ) (x y : ℕ) → IsFirstByteAt byte input x → IsFirstByteAt byte input y → x ≡ y
first_byte_unique byte input x y a b =
    let same = (splits_at_unique byte input a.0 a.1 b.0 b.1 a.2 b.2).0 in a.3 ∙ ap length same ∙ sym b.3

header_offset_unique : (input : List ℕ) (fault : Message) (x y : ℕ) → IsHeaderOffset input fault x → IsHeaderOffset input fault y → x ≡ y
header_offset_unique input fault x y (inl a) (inl b) = first_byte_unique 0 input x y a.1 b.1
header_offset_unique input fault x y (inl a) (inr b) = let e = sym a.0 ∙ b.0 in absurd (cc e)
header_offset_unique input fault x y (inr a) (inl b) = let e = sym a.0 ∙ b.0 in absurd (cc e)
header_offset_unique input fault x y (inr a) (inr b) = a.1 ∙ sym b.1

pub header_check_deterministic : (severity : Message → Severity) → IsDeterministicCheck (HeaderCheck severity)
header_check_deterministic severity input before one other x y (inl a) (inl b) = (a.1 ∙ sym b.1, a.2 ∙ sym b.2)
header_check_deterministic severity input before one other x y (inl a) (inr b) =
    let e = header_deterministic input (Ok input) (Err b.0) a.0 b.2 in absurd (cc e)
header_check_deterministic severity input before one other x y (inr a) (inl b) =
    let e = header_deterministic input (Err a.0) (Ok input) a.2 b.0 in absurd (cc e)
header_check_deterministic severity input before one other x y (inr a) (inr b) =
    let e = header_deterministic input (Err a.0) (Err b.0) a.2 b.2 in
    let faults : a.0 ≡ b.0 = cc e in
    let offsets = header_offset_unique input b.0 a.1 b.1 (subst (λ (m : Message). IsHeaderOffset input m a.1) faults a.3) b.3 in (
      a.4 ∙ same_list severity a.0 b.0 a.1 before faults ∙ ap (λ (n : ℕ). listed severity b.0 n before) offsets ∙ sym b.4,
      a.5 ∙ sym b.5,
    )

-- ---- actors

pub actor_check_deterministic : (severity : Message → Severity) (offset : ℕ) → IsDeterministicCheck (ActorCheck severity offset)
actor_check_deterministic severity offset actor before one other x y (r, line, inl a) (s, line', inl b) =
    let rests = after_line_unique actor r s line line' in (a.2 ∙ sym b.2, a.3 ∙ ap Some rests ∙ sym b.3)
actor_check_deterministic severity offset actor before one other x y (r, line, inl a) (s, line', inr b) =
    let e = actor_deterministic actor (Ok a.0) (Err b.0) a.1 b.1 in absurd (cc e)
actor_check_deterministic severity offset actor before one other x y (r, line, inr a) (s, line', inl b) =
    let e = actor_deterministic actor (Err a.0) (Ok b.0) a.1 b.1 in absurd (cc e)
actor_check_deterministic severity offset actor before one other x y (r, line, inr a) (s, line', inr b) =
    let rests = after_line_unique actor r s line line' in
    let e = actor_deterministic actor (Err a.0) (Err b.0) a.1 b.1 in
    let faults : a.0 ≡ b.0 = cc e in (
      a.2 ∙ same_list severity a.0 b.0 offset before faults ∙ sym b.2,
      a.3 ∙ same_rest_after severity a.0 b.0 r s faults rests ∙ sym b.3,
    )

pub actor_line_check_deterministic : (severity : Message → Severity) (object name : List ℕ) → IsDeterministicCheck (ActorLineCheck severity object name)
actor_line_check_deterministic severity object name input before one other x y a b =
    let same = after_name_unique name input a.0 b.0 a.1 b.1 in
    actor_check_deterministic severity (offset_of object input) b.0 before one other x y
    (subst (λ (i : List ℕ). ActorCheck severity (offset_of object input) i before one x) same a.2) b.2
