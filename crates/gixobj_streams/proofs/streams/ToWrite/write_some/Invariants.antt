use Rattle.std.proofs.Common.{◌≡◌}
use Rattle.std.specs.Io.KnownBytes.{Keeps}
use Rattle.gixobj_streams.proofs.streams.ToWrite.write_some.Given as goal

-- the written bytes and the loan are unchanged
abbrev pub invariant-loop : goal.invariant-loop
invariant-loop g l =
    record {
      kept : Keeps (g.W.Write.contents l.fn.self.0.now) (g.W.Write.contents l.self.0.now);
      same_loan : l.self.0.ghost_name ≡ l.fn.self.0.ghost_name;
    }
