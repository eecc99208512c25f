use Rattle.gixobj_editor_files.proofs.Canonical.{same_trees}
use Rattle.gixobj_editor_files.proofs.laws.built_trees_are_unique.Goals as goal

pub returns : goal.returns
returns c = same_trees
