use Rattle.std.proofs.Common.{◌≡◌, length}
use Rattle.gixobj_text.specs.BodyLines.{after_token}
use Rattle.gixobj_text.proofs.commit.message.body.trailer_lines.skip_token.Given as goal

-- the bytes after the token are the same from the rest as from the start
abbrev pub invariant-bytes : goal.invariant-bytes
invariant-bytes l = after_token l.rest ≡ after_token l.fn.content

abbrev pub decreases-bytes : goal.decreases-bytes
decreases-bytes l = length l.rest
