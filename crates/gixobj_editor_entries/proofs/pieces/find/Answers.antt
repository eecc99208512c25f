use Rattle.std.proofs.Common.{◌∙◌, ◌-◌, ◌<◌, length, refl, sym, ap, subst, arith, rules}
use Rattle.std.specs.List.{find}
use Rattle.std.proofs.lemmas.List.Sums.{prefix_len-le-length}
use Rattle.gixobj_tree_entries.specs.KeyOrder.{key_of}
use Rattle.gixobj_editor_entries.specs.Pieces.{IsAscending, begins_at_most, has_key, item_key}
use Rattle.gixobj_editor_entries.proofs.Joined.{each_later_in_piece, find_joined_first, find_joined_more}
use Rattle.gixobj_editor_entries.proofs.Keys.{is_ascending_of_append_left, is_ascending_of_append_right}
use Rattle.gixobj_editor_entries.proofs.pieces.find.Goals as goal

pub returns-then-is_past_end : goal.returns-then-is_past_end
returns-then-is_past_end g c = sym (c.if-is_past_end.ensures refl c.args.first.now c.requires)

pub piece_of-at-requires-clause-ascending : goal.piece_of-at-requires-clause-ascending
piece_of-at-requires-clause-ascending g c =
    is_ascending_of_append_right (item_key g.T.Named.name_of g.T.Named.is_tree_of) c.args.first.now _ c.requires.ascending

pub find_in-requires : goal.find_in-requires
find_in-requires g c = is_ascending_of_append_left (item_key g.T.Named.name_of g.T.Named.is_tree_of) c.args.first.now _ c.requires.ascending

pub returns-then-at-eq0 : goal.returns-then-at-eq0
returns-then-at-eq0 g c =
    let key = item_key g.T.Named.name_of g.T.Named.is_tree_of in
    c.find_in.ensures
    ∙ sym (find_joined_first (λ p. p.items) key (key_of c.args.name.now c.args.is_tree) c.args.first.now c.args.more.now c.requires.ascending
    c.requires.non_empty (sym c.piece_of-at.ensures ∙ c.if-at-eq0.true))

pub bounds-more-at : goal.bounds-more-at
bounds-more-at g c =
    let key = item_key g.T.Named.name_of g.T.Named.is_tree_of in
    let k = key_of c.args.name.now c.args.is_tree in
    omega (arith, c.piece_of-at.ensures, c.if-at-eq0.false, prefix_len-le-length (λ p. begins_at_most key k p.items) c.args.more.now)

pub offset_bounds-more-at : goal.offset_bounds-more-at
offset_bounds-more-at g c = let within = bounds-more-at g c in search rules

pub find_in-requires-2 : goal.find_in-requires-2
find_in-requires-2 g c =
    let more = c.args.more.now in
    let key = item_key g.T.Named.name_of g.T.Named.is_tree_of in
    let k = key_of c.args.name.now c.args.is_tree in
    let i = c.piece_of-at.result - 1 in
    let low : i < length more = omega (arith, c.piece_of-at.ensures, c.if-at-eq0.false, prefix_len-le-length (λ p. begins_at_most key k p.items) more) in
    subst (IsAscending key) (sym (c.deref.ensures.value ∙ ap (λ p. p.items) c.index-more-at.is))
    (each_later_in_piece (λ p. p.items) _ more i c.index-more-at.result low (is_ascending_of_append_right key c.args.first.now _ c.requires.ascending))

pub returns : goal.returns
returns g c =
    let more = c.args.more.now in
    let key = item_key g.T.Named.name_of g.T.Named.is_tree_of in
    let k = key_of c.args.name.now c.args.is_tree in
    let i = c.piece_of-at.result - 1 in
    c.find_in-2.ensures ∙ ap (find (has_key key k)) (c.deref.ensures.value ∙ ap (λ p. p.items) c.index-more-at.is)
    ∙ sym (find_joined_more (λ p. p.items) key k c.args.first.now more i c.index-more-at.result c.requires.ascending c.requires.non_empty
    (omega (arith, c.piece_of-at.ensures, c.if-at-eq0.false)))
