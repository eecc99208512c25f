use Rattle.std.proofs.Common.{◌≡◌, ◌++◌, length}
use Rattle.gixobj_signature.specs.Signing.{without_returns}
use Rattle.gixobj_signature.proofs.signature.sign.without_returns_of.Given as goal

-- the bytes kept so far, and those kept of the rest, are those kept of the entire content
abbrev pub invariant-bytes : goal.invariant-bytes
invariant-bytes l = l.kept.items ++ without_returns l.rest ≡ without_returns l.fn.content

abbrev pub decreases-bytes : goal.decreases-bytes
decreases-bytes l = length l.rest
