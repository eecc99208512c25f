-- The position of the item of a name and kind: in the first piece, in another, or past the last item. They are the
-- clauses of `position_of`.
use Rattle.std.proofs.Common.{◌≡◌, ◌∙◌, ◌-◌, ◌<◌, Some, suc, length, refl, sym, ap, subst, arith, rules}
use Rattle.std.specs.List.{HoldsAt, find, position}
use Rattle.std.proofs.lemmas.List.{get_or_default}
use Rattle.std.proofs.lemmas.List.Sums.{prefix_len-le-length}
use Rattle.gixobj_tree_entries.specs.KeyOrder.{key_of}
use Rattle.gixobj_editor_entries.specs.Pieces.{IsAscending, IsPosition, begins_at_most, flat_index, has_key, item_key, joined}
use Rattle.gixobj_editor_entries.proofs.Joined.{each_later_in_piece, find_joined_first, find_joined_more}
use Rattle.gixobj_editor_entries.proofs.Keys.{is_ascending_of_append_left, is_ascending_of_append_right}
use Rattle.gixobj_editor_entries.proofs.FlatIndices.{if_none_weaker, if_some_of_three, position_joined_first_of_held, position_joined_more_of_held}
use Rattle.gixobj_editor_entries.proofs.FlatIndices.{position_none_of_find}
use Rattle.gixobj_editor_entries.proofs.positions.position_of.Goals as goal

pub returns-then-is_past_end-clause-none : goal.returns-then-is_past_end-clause-none
returns-then-is_past_end-clause-none g c =
    let key = item_key g.T.Named.name_of g.T.Named.is_tree_of in
    let k = key_of c.args.name.now c.args.is_tree in
    position_none_of_find (has_key key k) (joined (λ p. p.items) c.args.first.now c.args.more.now)
    (c.if-is_past_end.ensures refl c.args.first.now c.requires)

pub piece_of-piece-requires-clause-ascending : goal.piece_of-piece-requires-clause-ascending
piece_of-piece-requires-clause-ascending g c =
    is_ascending_of_append_right (item_key g.T.Named.name_of g.T.Named.is_tree_of) c.args.first.now _ c.requires.ascending

-- in the first piece
pub position_at-requires : goal.position_at-requires
position_at-requires g c = is_ascending_of_append_left (item_key g.T.Named.name_of g.T.Named.is_tree_of) c.args.first.now _ c.requires.ascending

pub returns-then-piece-eq0-clause-within : goal.returns-then-piece-eq0-clause-within
returns-then-piece-eq0-clause-within g c =
    if_some_of_three c.position_at.result _ _ _ _ c.position_at.ensures.piece c.position_at.ensures.within c.position_at.ensures.found
    (λ at piece within found. subst (λ n. IsPosition (λ p. p.items) c.args.first.now c.args.more.now n at.index) (sym (piece ∙ c.if-piece-eq0.true)) within)

pub returns-then-piece-eq0-clause-found : goal.returns-then-piece-eq0-clause-found
returns-then-piece-eq0-clause-found g c =
    let first = c.args.first.now in
    let more = c.args.more.now in
    let key = item_key g.T.Named.name_of g.T.Named.is_tree_of in
    let k = key_of c.args.name.now c.args.is_tree in
    if_some_of_three c.position_at.result _ _ _ _ c.position_at.ensures.piece c.position_at.ensures.within c.position_at.ensures.found
    (λ at piece within found.
    subst (λ n. position (has_key key k) (joined (λ p. p.items) first more) ≡ Some (flat_index (λ p. p.items) first more n at.index))
    (sym (piece ∙ c.if-piece-eq0.true))
    (position_joined_first_of_held (λ p. p.items) key k first more c.requires.ascending at.index within found))

pub returns-then-piece-eq0-clause-none : goal.returns-then-piece-eq0-clause-none
returns-then-piece-eq0-clause-none g c =
    let key = item_key g.T.Named.name_of g.T.Named.is_tree_of in
    let k = key_of c.args.name.now c.args.is_tree in
    if_none_weaker c.position_at.result c.position_at.ensures.none
    (λ none. position_none_of_find (has_key key k) (joined (λ p. p.items) c.args.first.now c.args.more.now)
    (find_joined_first (λ p. p.items) key k c.args.first.now c.args.more.now c.requires.ascending c.requires.non_empty
    (sym c.piece_of-piece.ensures ∙ c.if-piece-eq0.true) ∙ none))

-- in another piece
pub bounds-more-piece : goal.bounds-more-piece
bounds-more-piece g c =
    let key = item_key g.T.Named.name_of g.T.Named.is_tree_of in
    let k = key_of c.args.name.now c.args.is_tree in
    omega (arith, c.piece_of-piece.ensures, c.if-piece-eq0.false, prefix_len-le-length (λ p. begins_at_most key k p.items) c.args.more.now)

pub offset_bounds-more-piece : goal.offset_bounds-more-piece
offset_bounds-more-piece g c = let within = bounds-more-piece g c in search rules

pub position_at-requires-2 : goal.position_at-requires-2
position_at-requires-2 g c =
    let more = c.args.more.now in
    let key = item_key g.T.Named.name_of g.T.Named.is_tree_of in
    let k = key_of c.args.name.now c.args.is_tree in
    let i = c.piece_of-piece.result - 1 in
    let low : i < length more =
    omega (arith, c.piece_of-piece.ensures, c.if-piece-eq0.false, prefix_len-le-length (λ p. begins_at_most key k p.items) more) in
    subst (IsAscending key) (sym (c.deref.ensures.value ∙ ap (λ p. p.items) c.index-more-piece.is))
    (each_later_in_piece (λ p. p.items) _ more i c.index-more-piece.result low
    (is_ascending_of_append_right key c.args.first.now _ c.requires.ascending))

pub returns-clause-within : goal.returns-clause-within
returns-clause-within g c =
    let more = c.args.more.now in
    let key = item_key g.T.Named.name_of g.T.Named.is_tree_of in
    let k = key_of c.args.name.now c.args.is_tree in
    let i = c.piece_of-piece.result - 1 in
    let low : i < length more =
    omega (arith, c.piece_of-piece.ensures, c.if-piece-eq0.false, prefix_len-le-length (λ p. begins_at_most key k p.items) more) in
    let is : c.piece_of-piece.result ≡ suc i = omega (arith, c.if-piece-eq0.false) in
    let list = c.deref.ensures.value ∙ ap (λ p. p.items) c.index-more-piece.is in
    if_some_of_three c.position_at-2.result _ _ _ _ c.position_at-2.ensures.piece c.position_at-2.ensures.within c.position_at-2.ensures.found
    (λ at piece within found.
    subst (λ n. IsPosition (λ p. p.items) c.args.first.now more n at.index) (sym (piece ∙ is)) (
      low,
      λ d. subst (λ p. at.index < length p.items) (get_or_default more i c.index-more-piece.result d low)
          (subst (λ l. at.index < length l) list within),
    ))

pub returns-clause-found : goal.returns-clause-found
returns-clause-found g c =
    let first = c.args.first.now in
    let more = c.args.more.now in
    let key = item_key g.T.Named.name_of g.T.Named.is_tree_of in
    let k = key_of c.args.name.now c.args.is_tree in
    let i = c.piece_of-piece.result - 1 in
    let low : i < length more =
    omega (arith, c.piece_of-piece.ensures, c.if-piece-eq0.false, prefix_len-le-length (λ p. begins_at_most key k p.items) more) in
    let is : c.piece_of-piece.result ≡ suc i = omega (arith, c.if-piece-eq0.false) in
    let list = c.deref.ensures.value ∙ ap (λ p. p.items) c.index-more-piece.is in
    if_some_of_three c.position_at-2.result _ _ _ _ c.position_at-2.ensures.piece c.position_at-2.ensures.within c.position_at-2.ensures.found
    (λ at piece within found.
    subst (λ n. position (has_key key k) (joined (λ p. p.items) first more) ≡ Some (flat_index (λ p. p.items) first more n at.index)) (sym (piece ∙ is))
    (position_joined_more_of_held (λ p. p.items) key k first more c.requires.ascending i at.index c.index-more-piece.result low
    (subst (λ l. at.index < length l) list within) (subst (λ l. HoldsAt (λ x. key x ≡ k) l at.index) list found)))

pub returns-clause-none : goal.returns-clause-none
returns-clause-none g c =
    let key = item_key g.T.Named.name_of g.T.Named.is_tree_of in
    let k = key_of c.args.name.now c.args.is_tree in
    let i = c.piece_of-piece.result - 1 in
    let list = c.deref.ensures.value ∙ ap (λ p. p.items) c.index-more-piece.is in
    if_none_weaker c.position_at-2.result c.position_at-2.ensures.none
    (λ none. position_none_of_find (has_key key k) (joined (λ p. p.items) c.args.first.now c.args.more.now)
    (find_joined_more (λ p. p.items) key k c.args.first.now c.args.more.now i c.index-more-piece.result c.requires.ascending c.requires.non_empty
    (omega (arith, c.piece_of-piece.ensures, c.if-piece-eq0.false)) ∙ ap (find (has_key key k)) (sym list) ∙ none))
