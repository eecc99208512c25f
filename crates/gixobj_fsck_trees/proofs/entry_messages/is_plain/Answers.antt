use Rattle.std.proofs.Common.{arith, rules}
use Rattle.gixobj_fsck_trees.proofs.PlainNames.{plain_of_first}
use Rattle.gixobj_fsck_trees.proofs.entry_messages.is_plain.Goals as goal

pub returns-then-not-may_begin_fault : goal.returns-then-not-may_begin_fault
returns-then-not-may_begin_fault c = λ free. plain_of_first c.args.name.now c.may_begin_fault.result (omega arith) c.may_begin_fault.ensures (search rules)
    (c.is_free_of_separators.ensures.0 free)
