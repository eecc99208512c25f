use Rattle.std.proofs.Common.{rules}
use Rattle.gixobj_editor.proofs.editor.Editor.remove_leaf.Goals as goal

pub returns-clause-removed : goal.returns-clause-removed
returns-clause-removed g c = search rules
