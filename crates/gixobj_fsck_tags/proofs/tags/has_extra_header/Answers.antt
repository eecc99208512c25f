use Rattle.std.proofs.Common.{inl, inr}
use Rattle.gixobj_fsck_tags.proofs.TagMessages.{extra_iff, no_extra_of_fault}
use Rattle.gixobj_fsck_tags.proofs.tags.has_extra_header.Goals as goal

pub returns-in-Err : goal.returns-in-Err
returns-in-Err c = no_extra_of_fault c.args.kind c.args.tag.now _ (inl c.in-Err.ensures)

pub returns-in-Err-split_name : goal.returns-in-Err-split_name
returns-in-Err-split_name c = no_extra_of_fault c.args.kind c.args.tag.now _ (inr (c.in-Ok.start.now, c.in-Ok.ensures, c.in-Err-split_name.ensures))

pub returns-in-Ok-split_name : goal.returns-in-Ok-split_name
returns-in-Ok-split_name c = extra_iff c.begins_header.result c.args.kind c.args.tag.now _ c.after_tagger.result.now
    (c.in-Ok.start.now, c.in-Ok.ensures, (_, c.in-Ok-split_name.ensures)) c.after_tagger.ensures c.begins_header.ensures
