use Rattle.std.proofs.Common.{◌∙◌, sym, subst, arith}
use Rattle.std.specs.List.{flat_map}
use Rattle.std.proofs.lemmas.List.Sums.{prefix_len-le-length}
use Rattle.gixobj_tree_entries.specs.KeyOrder.{key_of}
use Rattle.gixobj_editor_entries.specs.Pieces.{IsAscending, begins_at_most, item_key}
use Rattle.gixobj_editor_entries.proofs.Joined.{is_pieced_of_same_map, joined_of_same_map, pieces_at_most_of_same_map}
use Rattle.gixobj_editor_entries.proofs.Keys.{is_ascending_of_append_right}
use Rattle.gixobj_editor_entries.proofs.splits.reserve.Goals as goal

pub piece_of-position-requires-clause-ascending : goal.piece_of-position-requires-clause-ascending
piece_of-position-requires-clause-ascending g c =
    let key = item_key g.T.Named.name_of g.T.Named.is_tree_of in
    subst (λ l. IsAscending key (flat_map (λ p. p.items) l)) (sym c.deref.ensures.value)
    (is_ascending_of_append_right key c.args.first.now.items _ c.requires.ascending)

pub reserve_at-requires : goal.reserve_at-requires
reserve_at-requires g c =
    let key = item_key g.T.Named.name_of g.T.Named.is_tree_of in
    let k = key_of c.args.name.now c.args.is_tree in
    omega (arith, c.in_ok-at.ensures.at, prefix_len-le-length (λ p. begins_at_most key k p.items) c.split_at.new.more.items)

pub returns-in_err-reserve_at-clause-pieced : goal.returns-in_err-reserve_at-clause-pieced
returns-in_err-reserve_at-clause-pieced g c =
    is_pieced_of_same_map (λ p. p.items) c.split_at.new.first.items c.reserve_at.new.first.items c.split_at.new.more.items c.reserve_at.new.more.items
    c.reserve_at.ensures.first c.reserve_at.ensures.more g.T.Named.name_of g.T.Named.is_tree_of c.split_at.ensures.pieced

pub returns-in_err-reserve_at-clause-unchanged : goal.returns-in_err-reserve_at-clause-unchanged
returns-in_err-reserve_at-clause-unchanged g c =
    joined_of_same_map (λ p. p.items) c.split_at.new.first.items c.reserve_at.new.first.items c.split_at.new.more.items c.reserve_at.new.more.items
    c.reserve_at.ensures.first c.reserve_at.ensures.more ∙ c.split_at.ensures.unchanged

pub returns-clause-pieced : goal.returns-clause-pieced
returns-clause-pieced g c =
    is_pieced_of_same_map (λ p. p.items) c.split_at.new.first.items c.reserve_at.new.first.items c.split_at.new.more.items c.reserve_at.new.more.items
    c.reserve_at.ensures.first c.reserve_at.ensures.more g.T.Named.name_of g.T.Named.is_tree_of c.split_at.ensures.pieced

pub returns-clause-unchanged : goal.returns-clause-unchanged
returns-clause-unchanged g c =
    joined_of_same_map (λ p. p.items) c.split_at.new.first.items c.reserve_at.new.first.items c.split_at.new.more.items c.reserve_at.new.more.items
    c.reserve_at.ensures.first c.reserve_at.ensures.more ∙ c.split_at.ensures.unchanged

pub returns-clause-at : goal.returns-clause-at
returns-clause-at g c =
    c.in_ok-at.ensures.at
    ∙ sym (pieces_at_most_of_same_map (λ p. p.items) c.split_at.new.more.items c.reserve_at.new.more.items c.reserve_at.ensures.more
    (item_key g.T.Named.name_of g.T.Named.is_tree_of) (key_of c.args.name.now c.args.is_tree))
