-- A prefix of the bytes is read, and the loan is unchanged.
use Rattle.std.proofs.Common.{◌≡◌}
use Rattle.gixobj_encode.proofs.StreamReads.{Skipping}
use Rattle.gixobj_encode.proofs.stream_hash.skip_source.Given as goal

abbrev pub invariant-loop-missing : goal.invariant-loop-missing
invariant-loop-missing g l =
    record {
      skipping : Skipping (g.S.Source.rest l.fn.source) (g.S.Source.rest l.source) l.len l.missing;
      lasting : g.S.Source.may_fail l.source → g.S.Source.may_fail l.fn.source;
      same_loan : g.S.Source.loan l.source ≡ g.S.Source.loan l.fn.source;
    }

abbrev pub decreases-loop-missing : goal.decreases-loop-missing
decreases-loop-missing g l = l.missing
