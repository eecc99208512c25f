use Rattle.std.proofs.Common.{◌≡◌, map}
use Rattle.gixobj_listings.specs.Changes.{addition}
use Rattle.gixobj_listings.proofs.differences.additions.Given as goal

abbrev pub invariant-loop-file : goal.invariant-loop-file
invariant-loop-file l = l.changes.items ≡ map addition l.yielded
