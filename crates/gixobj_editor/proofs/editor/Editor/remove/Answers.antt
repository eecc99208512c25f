use Rattle.std.proofs.Common.{rules}
use Rattle.gixobj_editor.proofs.editor.Editor.remove.Goals as goal

pub returns-clause-removed : goal.returns-clause-removed
returns-clause-removed g c = search rules
