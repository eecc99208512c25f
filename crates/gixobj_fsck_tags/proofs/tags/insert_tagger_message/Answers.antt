use Rattle.gixobj_fsck_tags.proofs.TagMessages.{inserts_no_fault, inserts_tagger_fault}
use Rattle.gixobj_fsck_tags.proofs.tags.insert_tagger_message.Goals as goal

pub returns-in-Err : goal.returns-in-Err
returns-in-Err c = inserts_tagger_fault c.args.messages.now c.insert.new.self c.in-Err.fault c.args.input.now c.insert.ensures c.in-Err.ensures

pub returns-in_default : goal.returns-in_default
returns-in_default c = inserts_no_fault c.args.messages.now c.args.input.now _ c.in_default.ensures
