-- Equal trees have the same entries.
use Rattle.std.proofs.Common.{◌∙◌, sym}
use Rattle.gixobj_c_edit.proofs.lossy.is_same.Goals as goal
use Rattle.gixobj_editor_files.proofs.SameTrees.{same_tree_eq, same_tree_false_ne}

pub returns-clause-same : goal.returns-clause-same
returns-clause-same c = λ yes. same_tree_eq c.args.tree.now c.args.other.now (sym c.eq.ensures ∙ yes)

pub returns-clause-different : goal.returns-clause-different
returns-clause-different c = λ no. same_tree_false_ne c.args.tree.now c.args.other.now (sym c.eq.ensures ∙ no)
