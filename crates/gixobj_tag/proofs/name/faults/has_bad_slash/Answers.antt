use Rattle.std.proofs.Common.{◌≡◌, true, false}
use Rattle.std.proofs.lemmas.Bool.{false≢true}
use Rattle.gixobj_tag.proofs.Names.{bad_slash_iff_doubled}
use Rattle.gixobj_tag.proofs.name.faults.has_bad_slash.Goals as goal
use Rattle.gixobj_tag.proofs.name.faults.has_bad_slash.Goals.{then-starts_with, else-starts_with}

pub returns-else-ends_with : goal.returns-else-ends_with
returns-else-ends_with c = elim c.if-starts_with.branch [
  | then-starts_with w ↦ (let e : false ≡ true = cc in absurd (false≢true e))
  | else-starts_with w ↦ bad_slash_iff_doubled c.args.name.now c.if-starts_with.value c.starts_with.result w.ends_with.result c.contains_str.result
      c.if-ends_with.false
      c.starts_with.ensures.value w.if-starts_with.false w.value-is w.ends_with.ensures.value c.contains_str.ensures
]
