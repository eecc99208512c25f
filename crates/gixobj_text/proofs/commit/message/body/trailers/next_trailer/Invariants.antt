use Rattle.std.proofs.Common.{◌≡◌, ◌≤◌, length}
use Rattle.bstr.specs.Text.{lines_of}
use Rattle.gixobj_text.specs.FirstLines.{HasLastLines}
use Rattle.gixobj_text.specs.Trailers.{trailers_of_bytes}
use Rattle.gixobj_text.specs.Unfolding.{first_is_folded}
use Rattle.gixobj_text.proofs.commit.message.body.trailers.next_trailer.Given as goal

-- the rest has all trailers of the bytes
abbrev pub invariant-lines : goal.invariant-lines
invariant-lines l = record {
  trailers : trailers_of_bytes l.rest ≡ trailers_of_bytes l.fn.bytes;
  folded : first_is_folded (lines_of l.rest) ≡ first_is_folded (lines_of l.fn.bytes);
  within : length l.rest ≤ length l.fn.bytes;
  last_lines : HasLastLines l.fn.bytes l.rest;
}

abbrev pub decreases-lines : goal.decreases-lines
decreases-lines l = length l.rest
