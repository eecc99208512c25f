use Rattle.std.proofs.Common.{◌≡◌}
use Rattle.std.specs.Io.KnownBytes.{Keeps}
use Rattle.gixobj_streams.proofs.streams.FromReadSource.read_some.Given as goal

-- the remaining bytes and the loan are unchanged
abbrev pub invariant-loop : goal.invariant-loop
invariant-loop g l =
    record {
      kept : Keeps (g.R.Read.remaining l.fn.self.0.now) (g.R.Read.remaining l.self.0.now);
      same_loan : l.self.0.ghost_name ≡ l.fn.self.0.ghost_name;
    }
