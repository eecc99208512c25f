use Rattle.gixobj_fsck_objects.proofs.objects.fsck.Goals as goal

pub returns-in-Tree-clause-found : goal.returns-in-Tree-clause-found
returns-in-Tree-clause-found c = rw c.in-Tree.is c.fsck_tree.ensures.found

pub returns-in-Tree-clause-error : goal.returns-in-Tree-clause-error
returns-in-Tree-clause-error c = rw c.in-Tree.is c.fsck_tree.ensures.error

pub returns-in-Commit-clause-found : goal.returns-in-Commit-clause-found
returns-in-Commit-clause-found c = rw c.in-Commit.is c.fsck_commit.ensures.found

pub returns-in-Commit-clause-error : goal.returns-in-Commit-clause-error
returns-in-Commit-clause-error c = rw c.in-Commit.is c.fsck_commit.ensures.error

pub returns-in-Tag-clause-found : goal.returns-in-Tag-clause-found
returns-in-Tag-clause-found c = rw c.in-Tag.is c.fsck_tag.ensures.found

pub returns-in-Tag-clause-error : goal.returns-in-Tag-clause-error
returns-in-Tag-clause-error c = rw c.in-Tag.is c.fsck_tag.ensures.error
