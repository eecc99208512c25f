use Rattle.std.proofs.Common.{◌∙◌, Some, ap, sym}
use Rattle.gixobj_editor_open.specs.Nested.{child_list, parts}
use Rattle.gixobj_editor_open.proofs.Levels.{bases_of_nil}
use Rattle.gixobj_editor_open.proofs.open.base_of.Goals as goal

pub returns : goal.returns
returns c = bases_of_nil c.args.node.now c.node.inside.entries (parts (child_list c.node.inside.children)) c.node.view_is ∙ ap Some (sym c.entries_of.ensures)
