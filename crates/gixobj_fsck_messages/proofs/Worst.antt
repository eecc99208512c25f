-- The worst severity of the messages of a set without the rest of them.
use Rattle.std.specs.Prelude.{◌≡◌, ◌⊎◌, ◌≤◌, Bool, Option, Some, None}
use Rattle.std.proofs.Common.{arith, ap, sym, ◌∙◌, inl, inr}
use Rattle.std.proofs.lemmas.Bool.{cases_eq}
use Rattle.gixobj_fsck_messages.specs.Messages.{message_number}
use Rattle.gixobj_fsck_messages.specs.Severities.{IsWorse, rank, severity_of}
use Rattle.gixobj_fsck_messages.specs.Sets.{HasMessage, HasNoMessage, IsFirstMessage, IsWorst, Removes}
use Rattle.gixobj_fsck_messages.specs.declared.message.Message.{Message}
use Rattle.gixobj_fsck_messages.specs.declared.set.Messages.{Messages}
use Rattle.gixobj_fsck_messages.specs.declared.severity.Severity.{Severity}
use Rattle.gixobj_fsck_messages.proofs.Numbers.{number_injective}

-- the worst severity of the messages in the first set that aren't in the rest, which is a part of it
abbrev pub IsWorstBefore : Bool → Messages → Messages → Option Severity → Type 0
IsWorstBefore strict messages rest None =
    ((it : Message) → HasMessage rest it → HasMessage messages it) × ((it : Message) → HasMessage messages it → HasMessage rest it)
IsWorstBefore strict messages rest (Some worst) =
    ((it : Message) → HasMessage rest it → HasMessage messages it)
    × ((it : Message) → HasMessage messages it → HasMessage rest it ⊎ (rank (severity_of strict it) ≤ rank worst))
    × ((it : Message) × HasMessage messages it × (severity_of strict it ≡ worst))

-- a message in the rest is this one, or in the rest without it
pub this_or_rest : (rest after : Messages) (message it : Message) → Removes rest message after → HasMessage rest it
    → (it ≡ message) ⊎ HasMessage after it
this_or_rest rest after message it removes has = elim (cases_eq (message_number it) (message_number message)) [
  | inl equal ↦ inl (number_injective it message equal)
  | inr other ↦ inr ((removes it).1 (has, λ same. other (ap message_number same)))
]

-- a message leaves the rest
pub worst_of_more : (strict : Bool) (messages rest after : Messages) (message : Message) (worst : Option Severity) (worse : Severity)
    → IsWorstBefore strict messages rest worst → IsFirstMessage rest message → Removes rest message after
    → IsWorse worst (severity_of strict message) worse → IsWorstBefore strict messages after (Some worse)
worst_of_more strict messages rest after message None worse before first removes is_worse = (
  λ it has. before.0 it ((removes it).0 has).0,
  λ it has. elim (this_or_rest rest after message it removes (before.1 it has)) [
    | inl same ↦ let one = ap (λ (m : Message). rank (severity_of strict m)) same in let two = ap rank is_worse in inr (omega (arith, one, two))
    | inr remains ↦ inl remains
  ],
  (message, before.0 message first.here, sym is_worse),
)
worst_of_more strict messages rest after message (Some worst) worse before first removes is_worse = (
  λ it has. before.0 it ((removes it).0 has).0,
  λ it has. elim (before.1 it has) [
    | inl in_rest ↦ elim (this_or_rest rest after message it removes in_rest) [
      | inl same ↦ let one = ap (λ (m : Message). rank (severity_of strict m)) same in inr (omega (arith, one, is_worse.2))
      | inr remains ↦ inl remains
    ]
    | inr at_most ↦ inr (omega (arith, at_most, is_worse.1))
  ],
  elim is_worse.0 [
    | inl same ↦ (before.2.0, before.2.1, before.2.2 ∙ sym same)
    | inr same ↦ (message, before.0 message first.here, sym same)
  ],
)

-- the worst severity of all messages, if none remains
pub worst_of_all : (strict : Bool) (messages rest : Messages) (worst : Option Severity)
    → IsWorstBefore strict messages rest worst → HasNoMessage rest → IsWorst strict messages worst
worst_of_all strict messages rest None before none = λ it has. none it (before.1 it has)
worst_of_all strict messages rest (Some worst) before none = (
  before.2,
  λ it has. elim (before.1 it has) [
    | inl remains ↦ absurd (none it remains)
    | inr at_most ↦ at_most
  ],
)
