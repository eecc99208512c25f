use Rattle.gixobj_editor_lookups.proofs.NamedTrees.{trees_of_objects_exist}
use Rattle.gixobj_editor.specs.Commands.{emitted_pairs}
use Rattle.gixobj_store_keep.specs.Memory.{memory_objects}
use Rattle.gixobj_cli_edit.proofs.Fitting.{fits, emitted_kinds, kept_as_themselves}
use Rattle.gixobj_cli_edit.proofs.laws.digest_run_has_table.Goals as goal

pub returns : goal.returns
returns c = λ hash before after commands nothing run own back.
    let replies = c.args.replies.now in
    let kinds = emitted_kinds hash before after commands replies run in
    let it = trees_of_objects_exist (memory_objects before.store) in
    c.consistent_run_has_table.ensures (memory_objects before.store) it.0 it.1
    (fits hash (emitted_pairs replies) (memory_objects before.store) it.0 nothing it.1 kinds own)
    (kept_as_themselves hash c.encodable_tree_decodes_to_itself.ensures replies kinds back)
