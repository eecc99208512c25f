use Rattle.std.proofs.Common.{◌∙◌, Some, sym, ap}
use Rattle.gixobj_tree_entries.specs.KeyOrder.{key_of}
use Rattle.gixobj_editor_entries.specs.Pieces.{item_key}
use Rattle.gixobj_editor_entries.proofs.OnePiece.{find_of_found, find_of_none}
use Rattle.gixobj_editor_entries.proofs.pieces.find_in.Goals as goal

pub returns-in-Ok : goal.returns-in-Ok
returns-in-Ok g c =
    let seen = c.in-Ok.ensures {u = tt} in
    ap Some c.index-piece-index.is
    ∙ sym (find_of_found (item_key g.T.Named.name_of g.T.Named.is_tree_of) (key_of c.args.name.now c.args.is_tree) c.args.piece.now c.in-Ok.index c.requires
    seen.position c.index-piece-index.result seen.within seen.found)

pub returns-in-Err : goal.returns-in-Err
returns-in-Err g c =
    let seen = c.in-Err.ensures {u = tt} in
    sym (find_of_none (item_key g.T.Named.name_of g.T.Named.is_tree_of) (key_of c.args.name.now c.args.is_tree) c.args.piece.now _ c.requires seen.position
    seen.none)
