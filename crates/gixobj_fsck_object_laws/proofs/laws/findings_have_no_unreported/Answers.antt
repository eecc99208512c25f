use Rattle.gixobj_fsck_object_laws.proofs.Unreported.{no_unreported}
use Rattle.gixobj_fsck_object_laws.proofs.laws.findings_have_no_unreported.Goals as goal

pub returns : goal.returns
returns c = no_unreported c.args.options.now c.args.kind c.args.hash_kind c.args.content.now c.tree_findings_are_about_trees.ensures
