-- The check of an object: its id, its bytes and git's findings.
use Rattle.std.proofs.Common.{refl, subst}
use Rattle.gix_object.specs.hash.hash.kind.Kind as hash
use Rattle.gixobj_cli_batch.specs.Checks.{HasBytesFault}
use Rattle.gixobj_fsck_objects.specs.Objects.{AreFindings}
use Rattle.gixobj_cli_batch.proofs.checked.check_record.Goals as goal

pub returns-in_ok-findings-in-Object : goal.returns-in_ok-findings-in-Object
returns-in_ok-findings-in-Object c =
    let P : hash.Kind → Type 0 = λ kind. HasBytesFault kind c.in-Object.kind c.in-Object.content.now c.in_ok-fault-in-Object.fault in
    let Q : hash.Kind → Type 0 = λ kind.
    AreFindings c.new-options.result c.in-Object.kind kind c.in-Object.content.now c.in_ok-findings-in-Object.findings.items in
    rw c.in-Object.is (
      refl,
      refl,
      c.other_id-other.ensures,
      subst P c.kind.ensures c.in_ok-fault-in-Object.ensures,
      (
        c.new-options.result,
        c.new-options.ensures.strict,
        c.new-options.ensures.severities,
        subst Q c.kind-in-Object.ensures c.in_ok-findings-in-Object.ensures,
      ),
    )
