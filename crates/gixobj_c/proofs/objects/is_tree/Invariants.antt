-- The consumed input is the entries so far, and fewer bytes remain after each entry.
use Rattle.std.proofs.Common.{length, List}
use Rattle.gixobj_c.proofs.objects.is_tree.Given as goal
use Rattle.gixobj_tree_entries.proofs.EntryRuns.{BeginsWithEntries}
use Rattle.gixobj_tree_entries.specs.Entries.{EntryView}

abbrev pub invariant-loop-rest : goal.invariant-loop-rest
invariant-loop-rest l = (entries : List EntryView) × BeginsWithEntries l.fn.hash l.fn.bytes entries l.rest

abbrev pub decreases-loop-rest : goal.decreases-loop-rest
decreases-loop-rest l = length l.rest
