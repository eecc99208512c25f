use Rattle.gixobj_fsck_trees.specs.FirstOffsets.{IsStepOffset}
use Rattle.gixobj_fsck_trees.specs.RawViews.{raw_entry_views}
use Rattle.gixobj_fsck_trees.proofs.FirstOffsets.{step_of_first, found_iff, no_step_of_no_first}
use Rattle.gixobj_fsck_trees.proofs.entries.has_step_down.Goals as goal

pub returns : goal.returns
returns c =
    rw c.is_some.ensures
    (found_iff (IsStepOffset (raw_entry_views c.args.entries.now)) _ c.first_step_down.result c.first_step_down.ensures
    (step_of_first (raw_entry_views c.args.entries.now))
    (no_step_of_no_first (raw_entry_views c.args.entries.now)))
