use Rattle.std.proofs.Common.{◌∙◌}
use Rattle.gixobj_tree_entries.specs.KeyOrder.{key_of}
use Rattle.gixobj_editor_entries.specs.Pieces.{item_key}
use Rattle.gixobj_editor_entries.proofs.OnePiece.{remove_of_found_in, without_key_of_none_in}
use Rattle.gixobj_editor_entries.proofs.pieces.remove_in.Goals as goal

pub returns-in-Ok-clause-items : goal.returns-in-Ok-clause-items
returns-in-Ok-clause-items g c =
    let seen = c.in-Ok.ensures {u = tt} in
    c.remove.ensures.items
    ∙ remove_of_found_in (item_key g.T.Named.name_of g.T.Named.is_tree_of) (key_of c.args.name.now c.args.is_tree) c.deref.result.now c.args.piece.now.items
    c.deref.ensures.value c.requires seen.position c.remove.result seen.within seen.found

pub returns-in-Err-clause-items : goal.returns-in-Err-clause-items
returns-in-Err-clause-items g c =
    let seen = c.in-Err.ensures {u = tt} in
    without_key_of_none_in (item_key g.T.Named.name_of g.T.Named.is_tree_of) (key_of c.args.name.now c.args.is_tree) c.deref.result.now
    c.args.piece.now.items c.deref.ensures.value c.requires seen.position seen.none
