use Rattle.gixobj_fsck_objects.proofs.objects.is_object_accepted.Goals as goal

pub returns-in-Tree-clause-found : goal.returns-in-Tree-clause-found
returns-in-Tree-clause-found c = rw c.in-Tree.is c.is_tree_accepted.ensures.found
