-- The consumed input is the entries so far, and the rest remains.
use Rattle.std.proofs.Common.{length, map}
use Rattle.gixobj_tree_entries.proofs.EntryRuns.{BeginsWithEntries}
use Rattle.gixobj_tree.proofs.tree.borrowed.TreeRef.from_bytes.Given as goal
use Rattle.gixobj_tree_entries.specs.EntryViews.{entry_view}

abbrev pub invariant-loop-rest : goal.invariant-loop-rest
invariant-loop-rest l = BeginsWithEntries l.hash_kind l.bytes (map entry_view l.entries.items) l.rest

-- fewer bytes remain after each entry
abbrev pub decreases-loop-rest : goal.decreases-loop-rest
decreases-loop-rest l = length l.rest
