use Rattle.gixobj_fsck_tree_findings.proofs.UniqueFindings.{findings_unique}
use Rattle.gixobj_fsck_tree_findings.proofs.laws.tree_findings_are_unique.Goals as goal

pub returns : goal.returns
returns c = findings_unique c.args.hash_kind c.args.options.now c.args.bytes.now
