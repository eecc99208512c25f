use Rattle.gixobj_fsck_object_laws.proofs.CleanCommits as law
use Rattle.gixobj_fsck_object_laws.proofs.laws.clean_commit_has_people.Goals as goal

pub returns : goal.returns
returns c = law.people_of_clean
