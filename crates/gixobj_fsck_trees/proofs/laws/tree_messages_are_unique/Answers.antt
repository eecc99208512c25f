use Rattle.gixobj_fsck_trees.proofs.UniqueReads.{tree_messages_unique}
use Rattle.gixobj_fsck_trees.proofs.laws.tree_messages_are_unique.Goals as goal

pub returns : goal.returns
returns c = tree_messages_unique c.args.hash_kind c.args.strict c.args.bytes.now
