use Rattle.std.proofs.Common.{◌↔◌, ℕ, drop}
use Rattle.gixobj_fsck_trees.specs.EntryMessages.{HasFault}
use Rattle.gixobj_fsck_trees.specs.FirstOffsets.{IsFirstOffset}
use Rattle.gixobj_fsck_trees.specs.RawViews.{raw_entry_views}
use Rattle.gixobj_fsck_trees.proofs.entries.first_fault.Given as goal

-- the first one of the rest is the first of all
abbrev pub invariant-loop-entry : goal.invariant-loop-entry
invariant-loop-entry l = (offset : ℕ) → IsFirstOffset (λ e. HasFault e l.message) (raw_entry_views (drop l.entry-index l.entries)) offset
    ↔ IsFirstOffset (λ e. HasFault e l.message) (raw_entry_views l.entries) offset
