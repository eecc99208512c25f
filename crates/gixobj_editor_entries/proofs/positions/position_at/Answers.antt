use Rattle.gixobj_tree_entries.specs.KeyOrder.{key_of}
use Rattle.gixobj_editor_entries.specs.Pieces.{item_key}
use Rattle.gixobj_editor_entries.proofs.OnePiece.{find_of_none}
use Rattle.gixobj_editor_entries.proofs.FlatIndices.{key_of_has_key}
use Rattle.gixobj_editor_entries.proofs.positions.position_at.Goals as goal

pub returns-in-Ok-clause-found : goal.returns-in-Ok-clause-found
returns-in-Ok-clause-found g c =
    let seen = c.in-Ok.ensures {u = tt} in
    λ d. key_of_has_key (item_key g.T.Named.name_of g.T.Named.is_tree_of) (key_of c.args.name.now c.args.is_tree) _ (seen.found d)

pub returns-in-Err-clause-none : goal.returns-in-Err-clause-none
returns-in-Err-clause-none g c =
    let seen = c.in-Err.ensures {u = tt} in
    find_of_none (item_key g.T.Named.name_of g.T.Named.is_tree_of) (key_of c.args.name.now c.args.is_tree) c.args.items.now _ c.requires seen.position
    seen.none
