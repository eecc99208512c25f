use Rattle.gixobj_fsck_trees.specs.EntryMessages.{HasBadMode}
use Rattle.gixobj_fsck_trees.specs.FirstOffsets.{IsFirstOffset}
use Rattle.gixobj_fsck_trees.specs.RawViews.{raw_entry_views}
use Rattle.gixobj_fsck_trees.proofs.FirstOffsets.{entry_of_first, found_iff, no_entry_of_no_first}
use Rattle.gixobj_fsck_trees.proofs.entries.have_bad_mode.Goals as goal

pub returns : goal.returns
returns c =
    rw c.is_some.ensures
    (found_iff (IsFirstOffset (HasBadMode c.args.strict) (raw_entry_views c.args.entries.now)) _ c.first_bad_mode.result c.first_bad_mode.ensures
    (entry_of_first (HasBadMode c.args.strict) (raw_entry_views c.args.entries.now))
    (no_entry_of_no_first (HasBadMode c.args.strict) (raw_entry_views c.args.entries.now)))
