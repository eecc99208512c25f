use Rattle.std.specs.Prelude.{codes}
use Rattle.gixobj_tag.proofs.PlainNames.{not_ends_with_iff}
use Rattle.gixobj_tag.proofs.name.faults.is_plain.Goals as goal

pub returns-then-is_dotted : goal.returns-then-is_dotted
returns-then-is_dotted c =
    let unlocked = not_ends_with_iff c.args.name.now (codes ".lock") c.ends_with.result c.ends_with.ensures.value in (
      λ passes. (c.is_dotted.ensures.0 c.if-is_dotted.true, unlocked.0 passes),
      λ plain. unlocked.1 plain.1,
    )
