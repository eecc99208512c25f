use Rattle.std.proofs.Common.{◌↔◌, ◌∷◌, length}
use Rattle.gixobj_fsck_trees.specs.RawViews.{raw_entry_view, raw_entry_views}
use Rattle.gixobj_fsck_trees.specs.TreeMessages.{Ascend}
use Rattle.gixobj_fsck_trees.proofs.name_twice.names_ascend.Given as goal

abbrev pub invariant-loop-entry : goal.invariant-loop-entry
invariant-loop-entry l = Ascend (raw_entry_view l.previous ∷ raw_entry_views l.rest)
    ↔ Ascend (raw_entry_views l.entries)

abbrev pub decreases-loop-entry : goal.decreases-loop-entry
decreases-loop-entry l = length l.rest
