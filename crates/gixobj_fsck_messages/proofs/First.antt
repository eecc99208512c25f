-- The message in a set with the smallest number.
use Rattle.std.specs.Prelude.{◌≡◌, ◌≤◌, ◌<◌, ℕ, Option, Some, None, MatchOption}
use Rattle.std.specs.Int.{bit_at}
use Rattle.std.proofs.Common.{arith, sym, subst}
use Rattle.gixobj_fsck_messages.specs.Messages.{message_number}
use Rattle.gixobj_fsck_messages.specs.Sets.{HasNoMessage, IsFirstMessage}
use Rattle.gixobj_fsck_messages.specs.declared.message.Message.{Message}
use Rattle.gixobj_fsck_messages.specs.declared.set.Messages.{Messages}

-- the message of the lowest bit is the first one
pub first_of_lowest_bit : (messages : Messages) (n : ℕ) (found : Option Message)
    → (n < 45) × (bit_at messages.bits n ≡ 1) × ((i : ℕ) → bit_at messages.bits i ≡ 1 → n ≤ i)
    → MatchOption found (45 ≤ n) (λ it. message_number it ≡ n)
    → MatchOption found (HasNoMessage messages) (IsFirstMessage messages)
first_of_lowest_bit messages n None lowest above = absurd (omega arith)
first_of_lowest_bit messages n (Some it) lowest same = record {
  here = subst (λ (k : ℕ). bit_at messages.bits k ≡ 1) (sym same) lowest.1;
  first = λ other has. let lower = lowest.2 (message_number other) has in omega (arith, lower, same);
}
