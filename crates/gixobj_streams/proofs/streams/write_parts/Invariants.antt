-- The parts before the current one are written.
use Rattle.std.proofs.Common.{◌≡◌, take}
use Rattle.std.specs.List.{flat_map}
use Rattle.gixobj_streams.specs.Streams.{AppendsAll}
use Rattle.gixobj_streams.proofs.streams.write_parts.Given as goal

abbrev pub invariant-loop-part : goal.invariant-loop-part
invariant-loop-part g l =
    record {
      write_bytes : AppendsAll (g.S.Sink.view l.fn.sink) (g.S.Sink.view l.sink) (flat_map (λ part. part.now) (take l.part-index l.parts));
      same_loan : g.S.Sink.loan l.sink ≡ g.S.Sink.loan l.fn.sink;
    }
