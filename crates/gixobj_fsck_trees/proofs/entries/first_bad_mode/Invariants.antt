use Rattle.std.proofs.Common.{◌↔◌, ℕ, drop}
use Rattle.gixobj_fsck_trees.specs.EntryMessages.{HasBadMode}
use Rattle.gixobj_fsck_trees.specs.FirstOffsets.{IsFirstOffset}
use Rattle.gixobj_fsck_trees.specs.RawViews.{raw_entry_views}
use Rattle.gixobj_fsck_trees.proofs.entries.first_bad_mode.Given as goal

-- the first one of the rest is the first of all
abbrev pub invariant-loop-entry : goal.invariant-loop-entry
invariant-loop-entry l = (offset : ℕ) → IsFirstOffset (HasBadMode l.strict) (raw_entry_views (drop l.entry-index l.entries)) offset
    ↔ IsFirstOffset (HasBadMode l.strict) (raw_entry_views l.entries) offset
