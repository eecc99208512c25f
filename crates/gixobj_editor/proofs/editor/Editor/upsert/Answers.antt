use Rattle.std.proofs.Common.{rules}
use Rattle.gixobj_editor.proofs.editor.Editor.upsert.Goals as goal

pub returns-clause-upserted : goal.returns-clause-upserted
returns-clause-upserted g c = search rules
