-- The bytes decode to one tree at most.
use Rattle.std.proofs.Common.{List, subst}
use Rattle.gixobj_c_edit.proofs.lossy.decodes_to.Goals as goal
use Rattle.gixobj_tree_entries.specs.Entries.{EntryView}
use Rattle.gixobj_tree_entries.specs.TreeDecoding.{DecodesToTree}

pub returns-in-Ok-clause-same : goal.returns-in-Ok-clause-same
returns-in-Ok-clause-same c = λ yes. subst (λ (entries : List EntryView). DecodesToTree c.args.hash c.args.bytes.now entries) (c.is_same.ensures.same yes)
    c.in-Ok.ensures.found

pub returns-in-Ok-clause-other : goal.returns-in-Ok-clause-other
returns-in-Ok-clause-other c = λ no decodes. c.is_same.ensures.different no
    (c.tree_decodes_uniquely.ensures.one_tree c.args.hash c.args.bytes.now _ c.args.tree.now c.in-Ok.ensures.found decodes)

pub returns-in-Err-Malformed-clause-other : goal.returns-in-Err-Malformed-clause-other
returns-in-Err-Malformed-clause-other c = λ no decodes. c.in-Err-Malformed.ensures.malformed c.in-Err-Malformed.field-0-is c.args.tree.now decodes
