use Rattle.std.proofs.Common.{sym, subst}
use Rattle.std.specs.List.{flat_map}
use Rattle.gixobj_editor_entries.specs.Pieces.{IsAscending, item_key}
use Rattle.gixobj_editor_entries.proofs.Keys.{is_ascending_of_append_right}
use Rattle.gixobj_editor_entries.proofs.pieces.remove.Goals as goal

pub piece_of-at-requires-clause-ascending : goal.piece_of-at-requires-clause-ascending
piece_of-at-requires-clause-ascending g c =
    let key = item_key g.T.Named.name_of g.T.Named.is_tree_of in
    subst (λ l. IsAscending key (flat_map (λ p. p.items) l)) (sym c.deref.ensures.value)
    (is_ascending_of_append_right key c.args.first.now.items _ c.requires.ascending)
