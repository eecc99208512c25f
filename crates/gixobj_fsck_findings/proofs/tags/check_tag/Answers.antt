use Rattle.std.proofs.Common.{inl, inr, refl, None}
use Rattle.gixobj_fsck_messages.specs.Options.{severity_by}
use Rattle.gixobj_fsck_findings.specs.TagChecks.{NamesCheck, TagCheck}
use Rattle.gixobj_fsck_findings.proofs.Steps.{if_done}
use Rattle.gixobj_fsck_findings.proofs.tags.check_tag.Goals as goal

pub returns-in_default-2 : goal.returns-in_default-2
returns-in_default-2 c =
    inr (
      c.in-Some.start.now,
      c.check_header.new.findings.items,
      rw c.in-Some.is at c.in_ok-start.ensures,
      inl (rw c.in_default-2.is at c.in_ok-target_type.ensures, refl),
    )

pub returns-in_default-3 : goal.returns-in_default-3
returns-in_default-3 c =
    inr (
      c.in-Some.start.now,
      c.check_header.new.findings.items,
      rw c.in-Some.is at c.in_ok-start.ensures,
      inr (
        c.in-Some-2.target_type.now,
        c.check_id_line.new.findings.items,
        rw c.in-Some-2.is at c.in_ok-target_type.ensures,
        inl (rw c.in_default-3.is at c.in_ok-names.ensures, refl),
      ),
    )

pub returns : goal.returns
returns c =
    if_done c.check_names.result
    (NamesCheck (severity_by c.args.options.now) c.args.tag.now c.in-Some-3.names.now c.check_type.new.findings.items
    c.check_names.new.findings.items None)
    (TagCheck (severity_by c.args.options.now) c.args.kind c.args.tag.now c.args.tag.now c.args.findings.now.items
    c.check_names.new.findings.items None)
    (λ here. inr (
      c.in-Some.start.now,
      c.check_header.new.findings.items,
      rw c.in-Some.is at c.in_ok-start.ensures,
      inr (
        c.in-Some-2.target_type.now,
        c.check_id_line.new.findings.items,
        rw c.in-Some-2.is at c.in_ok-target_type.ensures,
        inr (
          c.in-Some-3.names.now,
          c.check_type.new.findings.items,
          rw c.in-Some-3.is at c.in_ok-names.ensures,
          here,
        ),
      ),
    )) c.check_names.ensures
