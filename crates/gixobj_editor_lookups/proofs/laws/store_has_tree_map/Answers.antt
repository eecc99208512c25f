use Rattle.gixobj_editor_lookups.proofs.NamedTrees.{trees_of_objects_exist}
use Rattle.gixobj_editor_lookups.proofs.laws.store_has_tree_map.Goals as goal

pub returns : goal.returns
returns c = trees_of_objects_exist
