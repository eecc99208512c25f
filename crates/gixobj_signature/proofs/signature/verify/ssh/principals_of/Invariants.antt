use Rattle.std.proofs.Common.{◌≡◌, ◌++◌, length, map}
use Rattle.std.specs.Prelude.{filter}
use Rattle.bstr.specs.Owned.{bstring_bytes}
use Rattle.gixobj_signature.specs.Verifying.{lossy, principals_in}
use Rattle.gixobj_hash.specs.ByteStrings.{is_filled, trimmed}
use Rattle.gixobj_signature.proofs.signature.verify.ssh.principals_of.Given as goal

-- the principals found so far and those of the remaining lines are all principals
abbrev pub invariant-lines : goal.invariant-lines
invariant-lines l =
    map bstring_bytes l.principals.items ++ map lossy (filter is_filled (map trimmed l.lines))
    ≡ principals_in l.fn.stdout

abbrev pub decreases-lines : goal.decreases-lines
decreases-lines l = length l.lines
