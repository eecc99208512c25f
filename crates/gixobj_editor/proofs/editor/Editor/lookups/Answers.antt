use Rattle.std.proofs.Common.{rules}
use Rattle.gixobj_editor.proofs.editor.Editor.lookups.Goals as goal

pub returns : goal.returns
returns g c = search rules
