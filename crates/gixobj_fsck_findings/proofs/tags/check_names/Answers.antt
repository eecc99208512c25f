use Rattle.std.proofs.Common.{inl, inr, refl, None}
use Rattle.gixobj_fsck_messages.specs.Options.{severity_by}
use Rattle.gixobj_fsck_findings.specs.TagChecks.{ExtraCheck, NamesCheck}
use Rattle.gixobj_fsck_findings.proofs.Steps.{if_done}
use Rattle.gixobj_fsck_findings.proofs.tags.check_names.Goals as goal

pub returns-in_default : goal.returns-in_default
returns-in_default c = inl (rw c.in_default.is at c.in_ok-tagger.ensures, refl)

pub returns-in_default-2 : goal.returns-in_default-2
returns-in_default-2 c =
    inr (
      c.in-Some.tagger.now,
      c.check_name.new.findings.items,
      rw c.in-Some.is at c.in_ok-tagger.ensures,
      inl (rw c.in_default-2.is at c.in_ok-rest.ensures, refl),
    )

pub returns : goal.returns
returns c =
    if_done c.check_extra.result
    (ExtraCheck (severity_by c.args.options.now) c.args.tag.now c.in-Some-2.rest.now c.check_tagger.new.findings.items
    c.check_extra.new.findings.items None)
    (NamesCheck (severity_by c.args.options.now) c.args.tag.now c.args.input.now c.args.findings.now.items c.check_extra.new.findings.items None)
    (λ here. inr (
      c.in-Some.tagger.now,
      c.check_name.new.findings.items,
      rw c.in-Some.is at c.in_ok-tagger.ensures,
      inr (
        c.in-Some-2.rest.now,
        c.check_tagger.new.findings.items,
        rw c.in-Some-2.is at c.in_ok-rest.ensures,
        here,
      ),
    )) c.check_extra.ensures
