use Rattle.std.proofs.Common.{List}
use Rattle.gix_object.specs.Entries.{EntryView}
use Rattle.gix_object.specs.EntrySteps.{HasConsumedEntries}
use Rattle.gixobj_examples_edits.proofs.planner.is_tree.Given as goal

-- the reader has consumed entries of the encoding
abbrev pub invariant-loop-item : goal.invariant-loop-item
invariant-loop-item l = (entries : List EntryView) × HasConsumedEntries l.fn.kind l.fn.content entries l.item-iterator
