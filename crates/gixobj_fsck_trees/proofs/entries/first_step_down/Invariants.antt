use Rattle.std.proofs.Common.{◌↔◌, ◌∷◌, ℕ, length}
use Rattle.gixobj_fsck_trees.specs.FirstOffsets.{IsStepOffset}
use Rattle.gixobj_fsck_trees.specs.RawViews.{raw_entry_view, raw_entry_views}
use Rattle.gixobj_fsck_trees.proofs.entries.first_step_down.Given as goal

abbrev pub invariant-loop-entry : goal.invariant-loop-entry
invariant-loop-entry l = (offset : ℕ) → IsStepOffset (raw_entry_view l.previous ∷ raw_entry_views l.rest) offset
    ↔ IsStepOffset (raw_entry_views l.entries) offset

abbrev pub decreases-loop-entry : goal.decreases-loop-entry
decreases-loop-entry l = length l.rest
