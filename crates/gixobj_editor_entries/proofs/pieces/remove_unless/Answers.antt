use Rattle.gixobj_tree_entries.specs.KeyOrder.{key_of}
use Rattle.gixobj_editor_entries.specs.Pieces.{item_key}
use Rattle.gixobj_editor_entries.proofs.Neighbours.{without_key_of_find_none}
use Rattle.gixobj_editor_entries.proofs.pieces.remove_unless.Goals as goal

pub returns-then-is_absent-clause-removed : goal.returns-then-is_absent-clause-removed
returns-then-is_absent-clause-removed g c =
    without_key_of_find_none (item_key g.T.Named.name_of g.T.Named.is_tree_of) (key_of c.args.name.now c.args.is_tree) _
    (c.requires.absent c.if-is_absent.true)
