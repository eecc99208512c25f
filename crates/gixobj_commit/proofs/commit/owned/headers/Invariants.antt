use Rattle.std.proofs.Common.{◌≡◌, map, take}
use Rattle.gixobj_parse.specs.HeaderReading.{header_of, owned_header_of}
use Rattle.gixobj_commit.proofs.commit.owned.headers.Given as goal

abbrev pub invariant-loop-one : goal.invariant-loop-one
invariant-loop-one l = map owned_header_of l.copies.items ≡ map header_of (take l.one-index l.headers)
