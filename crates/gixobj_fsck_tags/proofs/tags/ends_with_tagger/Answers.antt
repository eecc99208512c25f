use Rattle.std.proofs.Common.{inl}
use Rattle.gixobj_fsck_tags.proofs.CleanTags.{ends_by_test}
use Rattle.gixobj_fsck_tags.proofs.tags.ends_with_tagger.Goals as goal

pub returns-in-Err : goal.returns-in-Err
returns-in-Err c = inl (c.in-Err.field-0, c.in-Err.ensures)

pub returns-in-Ok : goal.returns-in-Ok
returns-in-Ok c = ends_by_test c.args.input.now c.in-Ok.after.now c.begins_header.result c.in-Ok.ensures c.begins_header.ensures
