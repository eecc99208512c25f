use Rattle.std.proofs.Common.{inr, refl}
use Rattle.gixobj_fsck_findings.proofs.tags.check_tagger.Goals as goal

pub returns-in_ok-list-in-Err : goal.returns-in_ok-list-in-Err
returns-in_ok-list-in-Err c =
    inr (
      c.in-Some.tagger.now,
      c.after_line-rest.result.now,
      c.in-Some.ensures.found,
      c.after_line-rest.ensures,
      refl,
      inr (c.in-Err.fault, c.in-Err.ensures, rw c.offset_of-offset.ensures at c.in_ok-list-in-Err.ensures),
    )
