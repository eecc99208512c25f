use Rattle.std.proofs.Common.{◌≤◌, length}
use Rattle.gixobj_parse.specs.LineWalk.{HasMarkerPrefixesBefore}
use Rattle.gixobj_parse.proofs.signature.find.Given as goal

abbrev pub invariant-loop-newline : goal.invariant-loop-newline
invariant-loop-newline l = record { within : l.end ≤ length l.bytes; so_far : HasMarkerPrefixesBefore l.bytes l.end }

abbrev pub decreases-loop-newline : goal.decreases-loop-newline
decreases-loop-newline l = l.end
