use Rattle.gixobj_fsck_objects.proofs.Verdicts.{accepted_tree_iff}
use Rattle.gixobj_fsck_objects.proofs.objects.is_tree_accepted.Goals as goal

pub returns-clause-found : goal.returns-clause-found
returns-clause-found c = accepted_tree_iff c.args.strict c.args.hash_kind c.args.content.now c.in_ok-messages.messages c.has_error.result
    c.in_ok-messages.ensures.found c.has_error.ensures
