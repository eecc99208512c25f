use Rattle.std.proofs.Common.{inl}
use Rattle.gixobj_fsck.proofs.CommitMessages.{clean_if_no_zero}
use Rattle.gixobj_fsck.proofs.commits.is_clean_commit.Goals as goal

pub returns-in-Ok : goal.returns-in-Ok
returns-in-Ok c = clean_if_no_zero c.args.kind c.args.commit.now c.in-Ok.field-0.now c.has_zero.result c.in-Ok.ensures c.has_zero.ensures

pub returns-in-Err : goal.returns-in-Err
returns-in-Err c = (c.in-Err.field-0, inl c.in-Err.ensures)
