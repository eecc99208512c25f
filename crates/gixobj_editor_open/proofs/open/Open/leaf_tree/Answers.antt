use Rattle.gixobj_editor_open.specs.Nested.{child_list, parts}
use Rattle.gixobj_editor_open.proofs.Levels.{dirs_of_nil}
use Rattle.gixobj_editor_open.proofs.open.Open.leaf_tree.Goals as goal

pub returns-then-has_open_directory-clause-root : goal.returns-then-has_open_directory-clause-root
returns-then-has_open_directory-clause-root c = (
  c.self.inside.entries,
  dirs_of_nil c.args.self.now c.self.inside.entries
      (parts (child_list c.self.inside.children)) c.self.view_is,
)

pub returns-in_err-tree-clause-root : goal.returns-in_err-tree-clause-root
returns-in_err-tree-clause-root c = (
  c.self.inside.entries,
  dirs_of_nil c.args.self.now c.self.inside.entries
      (parts (child_list c.self.inside.children)) c.self.view_is,
)

pub returns-then-is_leaf_tree-clause-root : goal.returns-then-is_leaf_tree-clause-root
returns-then-is_leaf_tree-clause-root c = (
  c.self.inside.entries,
  dirs_of_nil c.args.self.now c.self.inside.entries
      (parts (child_list c.self.inside.children)) c.self.view_is,
)

pub returns-else-is_leaf_tree-clause-root : goal.returns-else-is_leaf_tree-clause-root
returns-else-is_leaf_tree-clause-root c = (
  c.self.inside.entries,
  dirs_of_nil c.args.self.now c.self.inside.entries
      (parts (child_list c.self.inside.children)) c.self.view_is,
)
