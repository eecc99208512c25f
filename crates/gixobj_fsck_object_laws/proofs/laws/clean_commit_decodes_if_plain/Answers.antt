use Rattle.gixobj_fsck_object_laws.proofs.CleanCommits as law
use Rattle.gixobj_fsck_object_laws.proofs.laws.clean_commit_decodes_if_plain.Goals as goal

pub returns : goal.returns
returns c = law.decodes_if_plain
