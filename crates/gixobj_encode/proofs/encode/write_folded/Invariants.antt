-- A prefix of the encoding is written, and the remaining lines fold into the rest of it.
use Rattle.std.proofs.Common.{◌≡◌, ◌++◌, ℕ, List, length}
use Rattle.gixobj_encode.specs.FieldWriting.{folded}
use Rattle.gixobj_streams.specs.Streams.{AppendsAll}
use Rattle.gixobj_encode.proofs.encode.write_folded.Given as goal

abbrev pub invariant-loop-line : goal.invariant-loop-line
invariant-loop-line g l =
    record {
      prefix : List ℕ;
      write_bytes : AppendsAll (g.S.Sink.view l.fn.sink) (g.S.Sink.view l.sink) prefix;
      joined : folded l.fn.value ≡ prefix ++ folded l.rest;
      same_loan : g.S.Sink.loan l.sink ≡ g.S.Sink.loan l.fn.sink;
    }

abbrev pub decreases-loop-line : goal.decreases-loop-line
decreases-loop-line g l = length l.rest
