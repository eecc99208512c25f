use Rattle.std.proofs.Common.{◌≡◌, ◌++◌, map}
use Rattle.bstr.specs.Owned.{bstring_bytes}
use Rattle.gixobj_listings.specs.FileLists.{with_first_name}
use Rattle.gixobj_listings.proofs.listing.add_before.Given as goal

abbrev pub invariant-loop-file : goal.invariant-loop-file
invariant-loop-file l = l.files.items ≡ l.initial.files.items ++ map (with_first_name (bstring_bytes l.name)) l.yielded
