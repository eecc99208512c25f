use Rattle.std.proofs.Common.{length}
use Rattle.gixobj_text.specs.LineBreaks.{IsUnsplit}
use Rattle.gixobj_text.proofs.commit.message.decode.message_title_and_body.Given as goal

-- no position before the rest has two consecutive line breaks
abbrev pub invariant-positions : goal.invariant-positions
invariant-positions l = IsUnsplit l.fn.message l.rest

abbrev pub decreases-positions : goal.decreases-positions
decreases-positions l = length l.rest
