-- The consumed bytes are those of the list, whose length increases in each iteration.
use Rattle.std.proofs.Common.{◌≡◌, ◌-◌, ◌^◌, vec_len}
use Rattle.std.specs.Io.KnownBytes.{Consumes}
use Rattle.gixobj_cli_show.proofs.input.read_all.Given as goal

abbrev pub invariant-chunks : goal.invariant-chunks
invariant-chunks g l =
    record {
      taken : Consumes (g.S.Source.rest l.fn.source) (g.S.Source.rest l.source) l.bytes.items;
      lasting : g.S.Source.may_fail l.source → g.S.Source.may_fail l.fn.source;
      same_loan : g.S.Source.loan l.source ≡ g.S.Source.loan l.fn.source;
    }

abbrev pub decreases-chunks : goal.decreases-chunks
decreases-chunks g l = 2 ^ 64 - vec_len l.bytes
