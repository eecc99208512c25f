use Rattle.std.proofs.Common.{length}
use Rattle.gixobj_fsck_trees.proofs.TreeReads.{BeginsWithRawEntries}
use Rattle.gixobj_fsck_trees.specs.RawViews.{raw_entry_views}
use Rattle.gixobj_fsck_trees.proofs.read_tree.read_tree.Given as goal

-- the input begins with the entries so far, and the rest follows
abbrev pub invariant-loop-rest : goal.invariant-loop-rest
invariant-loop-rest l = BeginsWithRawEntries l.hash_kind l.bytes (raw_entry_views l.entries.items) l.rest

-- fewer bytes remain after each entry
abbrev pub decreases-loop-rest : goal.decreases-loop-rest
decreases-loop-rest l = length l.rest
