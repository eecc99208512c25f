use Rattle.gixobj_fsck_messages.specs.Options.{severity_by}
use Rattle.gixobj_fsck_findings.proofs.CleanObjects.{no_tag_findings}
use Rattle.gixobj_fsck_findings.proofs.tags.fsck_tag.Goals as goal

pub returns-clause-found : goal.returns-clause-found
returns-clause-found c = rw c.new-findings.ensures.items at c.in_ok-check_tag.ensures

pub returns-then-is_clean_tag-clause-found : goal.returns-then-is_clean_tag-clause-found
returns-then-is_clean_tag-clause-found c = rw c.new-findings.ensures.items
    (no_tag_findings (severity_by c.args.options.now) c.args.kind c.args.tag.now c.if-is_clean_tag.ensures)
