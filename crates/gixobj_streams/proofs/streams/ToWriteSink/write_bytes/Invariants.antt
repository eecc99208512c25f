use Rattle.std.proofs.Common.{◌≡◌, ◌++◌, ℕ, List, length}
use Rattle.std.specs.Io.KnownBytes.{Appends}
use Rattle.gixobj_streams.proofs.streams.ToWriteSink.write_bytes.Given as goal

-- a prefix of the bytes is written, and the loan is unchanged
abbrev pub invariant-loop-rest : goal.invariant-loop-rest
invariant-loop-rest g l =
    record {
      prefix : List ℕ;
      joined : l.fn.bytes ≡ prefix ++ l.rest;
      held : Appends (g.W.Write.contents l.fn.self.0.now) (g.W.Write.contents l.self.0.now) prefix;
      same_loan : l.self.0.ghost_name ≡ l.fn.self.0.ghost_name;
    }

abbrev pub decreases-loop-rest : goal.decreases-loop-rest
decreases-loop-rest g l = length l.rest
