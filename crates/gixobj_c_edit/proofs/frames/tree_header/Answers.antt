-- The header that the decoder finds is the only one.
use mathlib.Core.Bool.{true≢false}
use Rattle.std.proofs.Common.{◌∙◌, sym}
use Rattle.gixobj_c_edit.proofs.FrameSteps.{is_kind_of_tree, same_header}
use Rattle.gixobj_c_edit.proofs.frames.tree_header.Goals as goal
use Rattle.gixobj_hash.specs.declared.kind.Kind.TheVariants as object

pub returns-in-Err-clause-accepts : goal.returns-in-Err-clause-accepts
returns-in-Err-clause-accepts c = λ size used has. absurd (cc (c.loose_header.ensures.accepts object.Tree size used has, c.in-Err.is))

pub returns-then-not-is_tree-clause-accepts : goal.returns-then-not-is_tree-clause-accepts
returns-then-not-is_tree-clause-accepts c = λ size used has.
    let tree = is_kind_of_tree c.loose_header.result c.in-Ok.header c.in-Ok.is size used (c.loose_header.ensures.accepts object.Tree size used has) in
    absurd (true≢false (sym (c.is_tree.ensures.1 tree) ∙ c.if-not-is_tree.true))

pub returns-clause-accepts : goal.returns-clause-accepts
returns-clause-accepts c = λ size used has. same_header c.loose_header.result c.in-Ok.header c.in-Ok.is size used
    (c.loose_header.ensures.accepts object.Tree size used has)
