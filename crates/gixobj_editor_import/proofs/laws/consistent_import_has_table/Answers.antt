use Rattle.gixobj_editor_import.proofs.Tables.{table_of_imports_exists}
use Rattle.gixobj_editor_import.proofs.laws.consistent_import_has_table.Goals as goal

pub returns : goal.returns
returns c =
    table_of_imports_exists (record {
      there = c.object_map_insert.ensures.inserted;
      elsewhere = c.object_map_insert.ensures.unchanged;
      same_or_not = c.id_equality_is_decidable.ensures;
    })
    c.consistent_pairs_have_table.ensures c.args.steps.now c.args.imported.now
