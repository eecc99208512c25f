use Rattle.std.proofs.Common.{List, length}
use Rattle.gixobj_store.specs.Lookups.{AreNamesOf, Name}
use Rattle.gixobj_store.proofs.tree.lookup.without_slashes.Given as goal

abbrev pub invariant-loop-following : goal.invariant-loop-following
invariant-loop-following l = (names : List Name) → AreNamesOf l.remaining names → AreNamesOf l.fn.path names

abbrev pub decreases-loop-following : goal.decreases-loop-following
decreases-loop-following l = length l.remaining
