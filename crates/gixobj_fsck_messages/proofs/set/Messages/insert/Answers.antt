use Rattle.std.proofs.Common.{inl, inr, arith, sym, ◌∙◌, ap}
use Rattle.gixobj_fsck_messages.specs.Messages.{message_number}
use Rattle.gixobj_fsck_messages.proofs.Bits.{set_bit_iff, set_bit_lt}
use Rattle.gixobj_fsck_messages.proofs.Numbers.{number_injective}
use Rattle.gixobj_fsck_messages.proofs.set.Messages.insert.Goals as goal

pub invariant_of-self : goal.invariant_of-self
invariant_of-self c = record { known = set_bit_lt c.args.self.now.bits c.number.result c.args.self.now.known (omega arith) }

pub returns : goal.returns
returns c = λ it.
    let bit = set_bit_iff c.args.self.now.bits c.number.result (message_number it) (omega arith) in (
      λ has. elim (bit.0 has) [ inl was ↦ inl was | inr same ↦ inr (number_injective it c.args.message (same ∙ c.number.ensures.value)) ],
      λ either. bit.1 (elim either [ inl was ↦ inl was | inr same ↦ inr (ap message_number same ∙ sym c.number.ensures.value) ]),
    )
