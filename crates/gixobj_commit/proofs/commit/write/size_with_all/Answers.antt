-- The size overflows if that of a prefix of the fields overflows.
use Rattle.gixobj_streams.proofs.Concatenations.{joined_len, no_overflow_of_joined}
use Rattle.gixobj_commit.proofs.commit.write.size_with_all.Goals as goal

pub returns-in_err-size : goal.returns-in_err-size
returns-in_err-size g c =
    rw c.from_residual.ensures (no_overflow_of_joined g.T.Field.written c.args.fields.now c.loop-field.field-index c.field-item.result c.args.size
    c.loop-field.size
    c.loop-field-test.true c.field-item.is c.loop-field.invariant.0 c.in_err-size.ensures)

pub returns : goal.returns
returns g c =
    let size = joined_len g.T.Field.written c.args.fields.now c.loop-field.field-index c.args.size c.loop-field.size c.loop-field-test.false
    c.loop-field.invariant.0 in
    (rw (← size) c.loop-field.invariant.1, size)
