-- Sets of no message or of one, and when a set has no error.
use Rattle.std.proofs.Common.{◌≡◌, Bool, true, false, inl, inr, refl, sym, subst}
use Rattle.std.specs.Prelude.{◌↔◌, IsTrue, not}
use Rattle.std.proofs.lemmas.Bool.{false≢true}
use Rattle.gixobj_fsck_messages.specs.Severities.{counts_as_error, severity_of}
use Rattle.gixobj_fsck_messages.specs.Sets.{HasError, HasMessage, HasNoMessage, Inserts}
use Rattle.gixobj_fsck_messages.specs.declared.message.Message.{Message}
use Rattle.gixobj_fsck_messages.specs.declared.set.Messages.{Messages}

-- the empty set has the messages of which there are none
pub no_messages : (messages : Messages) (P : Message → Type 0) → HasNoMessage messages → ((it : Message) → P it → ⊥)
    → (it : Message) → HasMessage messages it ↔ P it
no_messages messages P none lacks it = (λ has. absurd (none it has), λ is. absurd (lacks it is))

-- the set of one message has the only one that there is
pub one_message : (before after : Messages) (fault : Message) (P : Message → Type 0) → HasNoMessage before → Inserts before fault after
    → P fault → ((it : Message) → P it → it ≡ fault) → (it : Message) → HasMessage after it ↔ P it
one_message before after fault P none inserts here only it = (
  λ has. elim ((inserts it).0 has) [ inl was ↦ absurd (none it was) | inr same ↦ subst P (sym same) here ],
  λ is. (inserts it).1 (inr (only it is)),
)

-- a set without an error has only messages that don't count as one
pub no_error_iff : (has_error strict : Bool) (messages : Messages) (P : Message → Type 0) → ((it : Message) → HasMessage messages it ↔ P it)
    → (IsTrue has_error ↔ HasError strict messages)
    → IsTrue (not has_error) ↔ ((it : Message) → P it → ¬ IsTrue (counts_as_error (severity_of strict it)))
no_error_iff true strict messages P same errs = (
  λ holds. absurd (false≢true holds),
  λ none. let error = errs.0 refl in absurd (none error.0 ((same error.0).0 error.1) error.2),
)
no_error_iff false strict messages P same errs = (λ holds it is counts. false≢true (errs.1 (it, (same it).1 is, counts)), λ none. refl)
