use Rattle.std.proofs.Common.{rules}
use Rattle.gixobj_editor.proofs.editor.Editor.clone.Goals as goal

pub returns : goal.returns
returns g c = search rules
