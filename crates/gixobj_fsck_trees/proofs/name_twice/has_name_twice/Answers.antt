use Rattle.gixobj_fsck_trees.specs.FirstOffsets.{IsNoName, IsRepeatOffset}
use Rattle.gixobj_fsck_trees.specs.RawViews.{raw_entry_views}
use Rattle.gixobj_fsck_trees.proofs.FirstOffsets.{found_iff, name_twice_of_repeat, no_name_twice}
use Rattle.gixobj_fsck_trees.proofs.name_twice.has_name_twice.Goals as goal

pub returns-clause-found : goal.returns-clause-found
returns-clause-found c =
    rw c.is_some.ensures
    (found_iff (IsRepeatOffset IsNoName (raw_entry_views c.args.entries.now)) _ c.in_ok-first.first c.in_ok-first.ensures.found
    (name_twice_of_repeat (raw_entry_views c.args.entries.now)) (no_name_twice (raw_entry_views c.args.entries.now)))
