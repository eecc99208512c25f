-- The options without overrides are those of the findings, or of the failed allocation.
use Rattle.std.proofs.Common.{List, inl, inr, refl, subst}
use Rattle.gixobj_c_fsck.specs.Findings.{WritesFindings}
use Rattle.gixobj_fsck_messages.specs.declared.finding.Finding.{Finding}
use Rattle.gixobj_c_fsck.proofs.findings.list_findings.Goals as goal

pub returns-in-Ok : goal.returns-in-Ok
returns-in-Ok c =
    let P : List Finding → Type 0 = λ findings.
    WritesFindings c.args.strict findings c.args.out.now c.write_findings.new.out c.write_findings.new.count c.write_findings.result in (
      c.new.result,
      (c.new.ensures.strict, c.new.ensures.severities),
      inl (c.in-Ok.findings.items, c.in-Ok.ensures.found, subst P c.deref.ensures.value c.write_findings.ensures),
    )

pub returns-in-Err : goal.returns-in-Err
returns-in-Err c =
    (c.new.result, (c.new.ensures.strict, c.new.ensures.severities), inr (refl, c.in-Err.ensures.error, refl, refl))
