use Rattle.std.proofs.Common.{arith, sym, ◌∙◌, ap, subst, ◌≡◌, ℕ}
use Rattle.std.specs.Int.{bit_at}
use Rattle.gixobj_fsck_messages.specs.Messages.{message_number}
use Rattle.gixobj_fsck_messages.proofs.Bits.{clear_bit_iff, clear_bit_lt}
use Rattle.gixobj_fsck_messages.proofs.Numbers.{number_injective, number_lt}
use Rattle.gixobj_fsck_messages.proofs.set.Messages.remove.Goals as goal

pub returns-clause-removed : goal.returns-clause-removed
returns-clause-removed c = λ it.
    let below = number_lt it in
    let bit = clear_bit_iff c.args.self.now.bits c.number.result (message_number it) (omega arith) (omega arith) in (
      λ has. ((bit.0 has).0, λ same. (bit.0 has).1 (ap message_number same ∙ sym c.number.ensures.value)),
      λ both. bit.1 (both.0, λ same. both.1 (number_injective it c.args.message (same ∙ c.number.ensures.value))),
    )

pub returns-clause-fewer : goal.returns-clause-fewer
returns-clause-fewer c = λ has. clear_bit_lt c.args.self.now.bits c.number.result (omega arith)
    (subst (λ (it : ℕ). bit_at c.args.self.now.bits it ≡ 1) (sym c.number.ensures.value) has)
