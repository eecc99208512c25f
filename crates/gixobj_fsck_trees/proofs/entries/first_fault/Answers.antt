use Rattle.std.proofs.Common.{◌<◌, ◌≤◌, length, rules}
use Rattle.gixobj_fsck_trees.specs.EntryMessages.{HasFault}
use Rattle.gixobj_fsck_trees.proofs.TreeLoops.{entry_at, first_offset_here, first_offset_step, no_first_offset}
use Rattle.gixobj_fsck_trees.specs.RawEntries.{RawEntryView}
use Rattle.gixobj_fsck_trees.specs.RawViews.{raw_entry_view}
use Rattle.gixobj_fsck_trees.proofs.entries.first_fault.Goals as goal

pub loop-entry-preserved : goal.loop-entry-preserved
loop-entry-preserved c = λ offset.
    let P : RawEntryView → Type 0 = λ e. HasFault e c.args.message in
    let within : c.loop-entry.entry-index < length c.args.entries.now = search rules in
    let other : ¬ P (raw_entry_view (entry_at c.args.entries.now c.loop-entry.entry-index)) = search rules in
    let step = first_offset_step P c.args.entries.now c.loop-entry.entry-index within other offset in
    (λ rest. (c.loop-entry.invariant offset).0 (step.1 rest), λ all. step.0 ((c.loop-entry.invariant offset).1 all))

pub returns-then-has_fault : goal.returns-then-has_fault
returns-then-has_fault c =
    let P : RawEntryView → Type 0 = λ e. HasFault e c.args.message in
    let within : c.loop-entry.entry-index < length c.args.entries.now = search rules in
    let has : P (raw_entry_view (entry_at c.args.entries.now c.loop-entry.entry-index)) = search rules in
    (c.loop-entry.invariant (entry_at c.args.entries.now c.loop-entry.entry-index).offset).0
    (first_offset_here P c.args.entries.now c.loop-entry.entry-index within has)

pub returns : goal.returns
returns c = λ offset first.
    let past : length c.args.entries.now ≤ c.loop-entry.entry-index = search rules in
    no_first_offset (λ e. HasFault e c.args.message) c.args.entries.now c.loop-entry.entry-index offset past
    ((c.loop-entry.invariant offset).1 first)
