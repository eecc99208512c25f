use Rattle.std.proofs.Common.{◌∙◌, append-nil, sym}
use Rattle.gixobj_editor_files.proofs.NullIds.{is_null_of_test}
use Rattle.gixobj_editor_files.specs.WrittenTrees.{so_far}
use Rattle.gixobj_editor_write.proofs.walk.append_unless_null.Goals as goal

pub returns-then-is_null-clause-entries : goal.returns-then-is_null-clause-entries
returns-then-is_null-clause-entries c =
    let null = sym (is_null_of_test c.in-Some.id c.is_null.result c.is_null.ensures) ∙ c.if-is_null.true in
    rw (c.in-Some.is, null) (sym (append-nil (so_far c.args.base.now c.args.written_tree.now)))
