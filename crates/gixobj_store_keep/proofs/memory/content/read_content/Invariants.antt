-- The bytes that were read are the content so far, and the loan is unchanged.
use Rattle.std.proofs.Common.{◌≡◌}
use Rattle.gixobj_store_keep.proofs.ContentReads.{ReadsSoFar}
use Rattle.gixobj_store_keep.proofs.memory.content.read_content.Given as goal

abbrev pub invariant-loop-missing : goal.invariant-loop-missing
invariant-loop-missing g l =
    record {
      reads : ReadsSoFar (g.S.Source.rest l.fn.source) (g.S.Source.rest l.source) l.size l.missing l.content.items;
      lasting : g.S.Source.may_fail l.source → g.S.Source.may_fail l.fn.source;
      same_loan : g.S.Source.loan l.source ≡ g.S.Source.loan l.fn.source;
    }

abbrev pub decreases-loop-missing : goal.decreases-loop-missing
decreases-loop-missing g l = l.missing
