-- The fields before the current one are written.
use Rattle.std.proofs.Common.{◌≡◌, take}
use Rattle.std.specs.List.{flat_map}
use Rattle.gixobj_streams.specs.Streams.{AppendsAll}
use Rattle.gixobj_commit.proofs.commit.write.write_each.Given as goal

abbrev pub invariant-loop-field : goal.invariant-loop-field
invariant-loop-field g l =
    record {
      appended : AppendsAll (g.S.Sink.view l.fn.sink) (g.S.Sink.view l.sink) (flat_map g.T.Field.written (take l.field-index l.fields));
      same_loan : g.S.Sink.loan l.sink ≡ g.S.Sink.loan l.fn.sink;
    }
