use Rattle.std.proofs.Common.{◌≡◌, ◌++◌, map}
use Rattle.bstr.specs.Owned.{bstring_bytes}
use Rattle.gixobj_listings.specs.Changes.{with_name_first}
use Rattle.gixobj_listings.proofs.differences.add_before.Given as goal

abbrev pub invariant-loop-change : goal.invariant-loop-change
invariant-loop-change l = l.changes.items ≡ l.initial.changes.items ++ map (with_name_first (bstring_bytes l.name)) l.yielded
