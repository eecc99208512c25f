use Rattle.std.proofs.Common.{◌≡◌, ◌≤◌, length}
use Rattle.gixobj_text.specs.FirstLines.{HasLastLines}
use Rattle.gixobj_text.specs.Trailers.{trailers_of_bytes}
use Rattle.gixobj_text.proofs.commit.message.body.trailers.after_continuation_lines.Given as goal

-- the rest has all trailers of the bytes
abbrev pub invariant-lines : goal.invariant-lines
invariant-lines l = record {
  trailers : trailers_of_bytes l.rest ≡ trailers_of_bytes l.fn.bytes;
  within : length l.rest ≤ length l.fn.bytes;
  last_lines : HasLastLines l.fn.bytes l.rest;
}

abbrev pub decreases-lines : goal.decreases-lines
decreases-lines l = length l.rest
