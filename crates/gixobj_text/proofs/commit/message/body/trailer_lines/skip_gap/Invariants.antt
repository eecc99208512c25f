use Rattle.std.proofs.Common.{◌≡◌, length}
use Rattle.gixobj_text.specs.BodyLines.{after_gap}
use Rattle.gixobj_text.proofs.commit.message.body.trailer_lines.skip_gap.Given as goal

-- the bytes after the gap are the same from the rest as from the start
abbrev pub invariant-bytes : goal.invariant-bytes
invariant-bytes l = after_gap l.rest ≡ after_gap l.fn.content

abbrev pub decreases-bytes : goal.decreases-bytes
decreases-bytes l = length l.rest
