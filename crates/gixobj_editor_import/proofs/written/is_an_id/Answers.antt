use Rattle.std.proofs.Common.{ap, length, subst, sym, ◌∙◌}
use Rattle.hex.specs.Hex.{IsBytes}
use Rattle.gixobj_editor_import.proofs.written.is_an_id.Goals as goal

pub returns : goal.returns
returns c = (ap length (sym c.as_bytes.ensures.value) ∙ c.as_bytes.ensures.len, subst IsBytes c.as_bytes.ensures.value c.are_bytes.ensures)
