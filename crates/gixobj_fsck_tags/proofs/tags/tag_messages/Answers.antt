use Rattle.std.proofs.Common.{inl, inr}
use Rattle.gixobj_fsck_tags.specs.Tags.{IsTagMessage}
use Rattle.gixobj_fsck.proofs.MessageSets.{one_message}
use Rattle.gixobj_fsck_tags.proofs.TagMessages.{inserts_all}
use Rattle.gixobj_fsck_tags.proofs.TagOutcomes.{only_fault}
use Rattle.gixobj_fsck_tags.proofs.tags.tag_messages.Goals as goal

pub returns-in-Err : goal.returns-in-Err
returns-in-Err c = one_message c.new-messages.result c.insert.new.self c.in-Err.fault (IsTagMessage c.args.kind c.args.tag.now)
    c.new-messages.ensures c.insert.ensures (inl (inl c.in-Err.ensures)) (only_fault c.args.kind c.args.tag.now c.in-Err.fault (inl c.in-Err.ensures))

pub returns-in-Err-split_name : goal.returns-in-Err-split_name
returns-in-Err-split_name c = one_message c.new-messages.result c.insert-in-Err-split_name.new.self c.in-Err-split_name.fault
    (IsTagMessage c.args.kind c.args.tag.now) c.new-messages.ensures c.insert-in-Err-split_name.ensures
    (inl (inr (c.in-Ok.start.now, c.in-Ok.ensures, c.in-Err-split_name.ensures)))
    (only_fault c.args.kind c.args.tag.now c.in-Err-split_name.fault (inr (c.in-Ok.start.now, c.in-Ok.ensures, c.in-Err-split_name.ensures)))

pub returns-in-Ok-split_name : goal.returns-in-Ok-split_name
returns-in-Ok-split_name c = inserts_all c.args.kind c.args.tag.now c.in-Ok.start.now _ _ c.new-messages.result
    c.insert_name_message.new.messages c.insert_tagger_message.new.messages c.in-Ok.ensures c.in-Ok-split_name.ensures c.new-messages.ensures
    c.insert_name_message.ensures c.insert_tagger_message.ensures
