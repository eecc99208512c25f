use Rattle.std.proofs.Common.{◌≡◌, length}
use Rattle.gixobj_text.specs.Titles.{without_trailing}
use Rattle.gixobj_text.proofs.commit.message.summary.without_trailing.Given as goal

-- the rest and the piece are equal without their trailing white space
abbrev pub invariant-bytes : goal.invariant-bytes
invariant-bytes l = without_trailing l.rest ≡ without_trailing l.fn.piece

abbrev pub decreases-bytes : goal.decreases-bytes
decreases-bytes l = length l.rest
