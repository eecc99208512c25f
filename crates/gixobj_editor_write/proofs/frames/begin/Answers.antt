use Rattle.std.proofs.Common.{refl}
use Rattle.gixobj_editor_open.specs.Nested.{child_list, parts}
use Rattle.gixobj_editor_write.proofs.BegunFrames.{has_come_first, weight_first}
use Rattle.gixobj_editor_open.proofs.Levels.{dirs_of_nil}
use Rattle.gixobj_editor_write.proofs.frames.begin.Goals as goal

pub returns-clause-root : goal.returns-clause-root
returns-clause-root c = (
  c.node.inside.entries,
  dirs_of_nil c.args.node.now c.node.inside.entries (parts (child_list c.node.inside.children)) c.node.view_is,
)

pub returns-clause-come : goal.returns-clause-come
returns-clause-come c = has_come_first _ c.node.inside.entries c.node.inside.base (child_list c.node.inside.children) c.node.view_is c.in_ok-tree.ensures refl
    c.remaining-remaining.ensures.list c.node.invariant.level c.remaining-remaining.ensures.filled c.base_of-base.ensures c.new.ensures

pub returns-clause-weight : goal.returns-clause-weight
returns-clause-weight c = weight_first
    (record {
      node = c.args.node;
      base = c.base_of-base.result;
      tree = c.in_ok-tree.tree;
      next = 0;
      remaining = c.remaining-remaining.result;
      written_tree = c.new.result;
    })
    c.node.inside.entries c.node.inside.base (child_list c.node.inside.children) c.node.view_is c.in_ok-tree.ensures refl
    c.remaining-remaining.ensures.list

pub returns-in_err-tree-clause-root : goal.returns-in_err-tree-clause-root
returns-in_err-tree-clause-root c = (
  c.node.inside.entries,
  dirs_of_nil c.args.node.now c.node.inside.entries (parts (child_list c.node.inside.children)) c.node.view_is,
)
