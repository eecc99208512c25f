use Rattle.std.proofs.Common.{◌∙◌, [], append-nil, subst}
use Rattle.gixobj_editor_files.specs.WrittenTrees.{SharesBase}
use Rattle.gixobj_editor_files.proofs.written_tree.WrittenTree.is_base.Goals as goal

pub returns-in-Copied : goal.returns-in-Copied
returns-in-Copied c =
    let base = c.args.base.now in
    let off = subst (SharesBase base) c.in-Copied.is c.requires in
    (λ t. absurd (cc t), λ is. absurd (off [] (append-nil c.in-Copied.field-0.items ∙ rw c.in-Copied.is at is)))
