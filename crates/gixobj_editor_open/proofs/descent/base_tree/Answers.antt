use Rattle.gixobj_editor_open.specs.Nested.{child_list, parts}
use Rattle.gixobj_editor_open.proofs.Levels.{dirs_of_nil}
use Rattle.gixobj_editor_open.proofs.descent.base_tree.Goals as goal

pub returns-clause-root : goal.returns-clause-root
returns-clause-root c =
    (c.node.inside.entries, dirs_of_nil c.args.node.now c.node.inside.entries (parts (child_list c.node.inside.children)) c.node.view_is)
