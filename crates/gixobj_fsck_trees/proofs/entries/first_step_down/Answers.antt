use Rattle.std.proofs.Common.{◌≡◌, ◌∷◌, List, rules, subst, sym}
use Rattle.gixobj_fsck_trees.proofs.TreeLoops.{step_offset_next}
use Rattle.gixobj_fsck_trees.specs.FirstOffsets.{IsStepOffset}
use Rattle.gixobj_fsck_trees.specs.RawViews.{raw_entry_view, raw_entry_views}
use Rattle.gixobj_fsck_trees.specs.TreeMessages.{StepsDown}
use Rattle.gixobj_fsck_trees.specs.declared.raw_entry.RawEntry.{RawEntry}
use Rattle.gixobj_fsck_trees.proofs.entries.first_step_down.Goals as goal

pub loop-entry-preserved : goal.loop-entry-preserved
loop-entry-preserved c = λ offset.
    let split : c.loop-entry.rest.now ≡ c.in-Some.entry.now ∷ c.in-Some.after.now = search rules in
    let other : ¬ StepsDown (raw_entry_view c.loop-entry.previous.now) (raw_entry_view c.in-Some.entry.now) = search rules in
    let P : List RawEntry → Type 0 = λ rest. IsStepOffset (raw_entry_view c.loop-entry.previous.now ∷ raw_entry_views rest) offset in
    let step = step_offset_next (raw_entry_view c.loop-entry.previous.now) (raw_entry_view c.in-Some.entry.now)
    (raw_entry_views c.in-Some.after.now) offset other in (
      λ later. (c.loop-entry.invariant offset).0 (subst P (sym split) (step.1 later)),
      λ all. step.0 (subst P split ((c.loop-entry.invariant offset).1 all)),
    )
