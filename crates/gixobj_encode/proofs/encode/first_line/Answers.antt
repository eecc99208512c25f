-- The value splits after its first newline, unless no byte follows that newline.
use Rattle.std.proofs.Common.{inl, sym, ◌∙◌}
use Rattle.gixobj_encode.proofs.FieldWrites.{folded_split_at_newline, is_last_line_of_split, rest_after_newline_len_lt}
use Rattle.gixobj_encode.proofs.encode.first_line.Goals as goal

pub returns-in_err-line : goal.returns-in_err-line
returns-in_err-line c = rw c.from_residual.ensures (inl c.in_err-line.ensures.none)

pub returns-then-is_empty : goal.returns-then-is_empty
returns-then-is_empty c =
    is_last_line_of_split c.args.value.now c.in_ok-line.line.now c.in_ok-line.after.now c.in_ok-line.ensures.found
    (sym c.is_empty.ensures ∙ c.if-is_empty.true)

pub returns-else-is_empty : goal.returns-else-is_empty
returns-else-is_empty c =
    let split = c.in_ok-line.ensures.found in (
      folded_split_at_newline c.args.value.now c.in_ok-line.line.now c.in_ok-line.after.now split (sym c.is_empty.ensures ∙ c.if-is_empty.false),
      rest_after_newline_len_lt c.args.value.now c.in_ok-line.line.now c.in_ok-line.after.now split,
    )
