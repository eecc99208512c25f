-- If bytes begin with a mode, its digits are the split ones.
use Rattle.std.proofs.Common.{ℕ, List, length, sym, ◌∙◌, ap, subst, ◌≤◌}
use Rattle.std.specs.Str.Parse.{AllDigits}
use Rattle.gixobj_tree_entries.proofs.EncodedModes.{octal_digits_space_free, split_at_space_unique}
use Rattle.gixobj_tree_entries.proofs.entry_mode.any_mode_prefix.Goals as goal

pub returns-then-breaks_byte_six-clause-none : goal.returns-then-breaks_byte_six-clause-none
returns-then-breaks_byte_six-clause-none c = λ mode rest begins.
    let split = c.split_digits.ensures in
    let same = split_at_space_unique begins.digits rest c.split_digits.result.0.now c.split_digits.result.1.now
    (octal_digits_space_free begins.digits begins.decodes.octal) split.first
    begins.ends split.ends (sym begins.joined ∙ split.joined) in
    let breaks = c.breaks_byte_six.ensures.0 c.if-breaks_byte_six.true in
    breaks.2 (ap length (sym same.0) ∙ begins.byte_six breaks.0 breaks.1)

pub returns-in_err-internal-clause-none : goal.returns-in_err-internal-clause-none
returns-in_err-internal-clause-none c = rw c.from_residual.ensures (λ mode rest begins.
    let split = c.split_digits.ensures in
    let same = split_at_space_unique begins.digits rest c.split_digits.result.0.now c.split_digits.result.1.now
    (octal_digits_space_free begins.digits begins.decodes.octal) split.first
    begins.ends split.ends (sym begins.joined ∙ split.joined) in
    let P : List ℕ → Type 0 = λ it. AllDigits 8 it × (length it ≤ 7) in
    c.in_err-internal.ensures (subst P same.0 (begins.decodes.octal, begins.decodes.short)))
