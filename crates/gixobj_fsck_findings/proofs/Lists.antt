-- The messages of lists of findings.
use Rattle.std.proofs.Common.{◌≡◌, ◌⊎◌, ◌∷◌, ◌++◌, [], ℕ, List, inl, inr, sym, ap, subst, ◌∙◌, arith}
use Rattle.std.specs.Prelude.{◌↔◌, Contains}
use Rattle.std.proofs.lemmas.List.{map-append}
use Rattle.std.proofs.lemmas.List.Elements.{Contains-append_cases, Contains-append_left, Contains-append_right, Contains-push, Contains-push_cases}
use Rattle.gixobj_fsck_messages.specs.declared.finding.Finding.{Finding}
use Rattle.gixobj_fsck_messages.specs.declared.message.Message.{Message}
use Rattle.gixobj_fsck_findings.specs.Checks.{finding_of, messages_of}

-- the list of one message has it alone
pub one_message_list : (findings : List Finding) (fault : Message) (offset : ℕ) (P : Message → Type 0) → findings ≡ finding_of fault offset ∷ []
    → P fault → ((it : Message) → P it → it ≡ fault) → (it : Message) → Contains (messages_of findings) it ↔ P it
one_message_list findings fault offset P same here only it =
    let list = ap messages_of same in (
      λ has. elim (Contains-push_cases [] fault it (subst (λ (l : List Message). Contains l it) list has)) [
        | inl none ↦ absurd (omega (arith, none.1))
        | inr is ↦ subst P is here
      ],
      λ is. subst (λ (l : List Message). Contains l it) (sym list)
          (subst (λ (m : Message). Contains (fault ∷ []) m) (sym (only it is)) (Contains-push [] fault)),
    )

-- the empty list has no message
pub no_message_list : (findings : List Finding) (P : Message → Type 0) → findings ≡ [] → ((it : Message) → P it → ⊥)
    → (it : Message) → Contains (messages_of findings) it ↔ P it
no_message_list findings P same none it =
    let list = ap messages_of same in (
      λ has. let empty = subst (λ (l : List Message). Contains l it) list has in absurd (omega (arith, empty.1)),
      λ is. absurd (none it is),
    )

-- the messages of two lists in a row
pub split_message_list : (findings one other : List Finding) (P Q : Message → Type 0) → findings ≡ one ++ other
    → ((it : Message) → Contains (messages_of one) it ↔ P it) → ((it : Message) → Contains (messages_of other) it ↔ Q it)
    → (it : Message) → Contains (messages_of findings) it ↔ (P it ⊎ Q it)
split_message_list findings one other P Q same first second it =
    let list = ap messages_of same ∙ map-append (λ (f : Finding). f.message) one other in (
      λ has. elim (Contains-append_cases (messages_of one) (messages_of other) it (subst (λ (l : List Message). Contains l it) list has)) [
        | inl here ↦ inl ((first it).0 here)
        | inr here ↦ inr ((second it).0 here)
      ],
      λ either. subst (λ (l : List Message). Contains l it) (sym list) (elim either [
        | inl is ↦ Contains-append_left (messages_of one) (messages_of other) it ((first it).1 is)
        | inr is ↦ Contains-append_right (messages_of one) (messages_of other) it ((second it).1 is)
      ]),
    )
