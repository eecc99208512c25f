-- What the insertion makes of the one piece, it makes of the list, in the first piece or another one. They are the
-- clauses of `insert_at`.
use Rattle.std.proofs.Common.{◌∙◌, ◌-◌, ◌<◌, ◌++◌, set, length, length-append, sym, ap, subst, arith}
use Rattle.std.specs.Prelude.{vec_capacity, vec_len}
use Rattle.std.specs.List.{flat_map}
use Rattle.std.proofs.lemmas.List.{get_or_default}
use Rattle.std.proofs.lemmas.List.Sums.{prefix_len-le-length}
use Rattle.gixobj_editor_entries.specs.Pieces.{HasGap, HoldsAtPiece, IsAscending, begins_at_most, item_key, other_key, with_item}
use Rattle.gixobj_editor_entries.proofs.Neighbours.{find_none_about_first, find_none_about_more}
use Rattle.gixobj_editor_entries.proofs.Joined.{are_non_empty_set, each_later_in_piece, holds_at_index, is_pieced_of_with_item, length_joined_longer}
use Rattle.gixobj_editor_entries.proofs.Joined.{with_item_joined_first, with_item_joined_more, with_item_ne_nil}
use Rattle.gixobj_editor_entries.proofs.Keys.{is_ascending_of_append_left, is_ascending_of_append_right}
use Rattle.gixobj_editor_entries.proofs.pieces.insert_at.Goals as goal

-- into the first piece
pub insert_in-requires-clause-ascending : goal.insert_in-requires-clause-ascending
insert_in-requires-clause-ascending g c =
    is_ascending_of_append_left (item_key g.T.Named.name_of g.T.Named.is_tree_of) c.args.first.now.items _ c.requires.pieced.ascending

pub insert_in-requires-clause-has_capacity : goal.insert_in-requires-clause-has_capacity
insert_in-requires-clause-has_capacity g c =
    subst (HoldsAtPiece (λ p. vec_len p < vec_capacity p) c.args.first.now c.args.more.now.items) c.if-at-eq0.true c.requires.has_capacity

pub returns-then-at-eq0-clause-inserted : goal.returns-then-at-eq0-clause-inserted
returns-then-at-eq0-clause-inserted g c =
    let more = c.args.more.now.items in
    let key = item_key g.T.Named.name_of g.T.Named.is_tree_of in
    ap (λ l. l ++ flat_map (λ p. p.items) more) c.insert_in.ensures.items
    ∙ with_item_joined_first (λ p. p.items) key c.args.item c.args.first.now.items more c.requires.pieced.ascending c.requires.pieced.non_empty
    (omega (arith, c.requires.at, c.if-at-eq0.true))

pub returns-then-at-eq0-clause-pieced : goal.returns-then-at-eq0-clause-pieced
returns-then-at-eq0-clause-pieced g c =
    is_pieced_of_with_item g.T.Named.name_of g.T.Named.is_tree_of (λ p. p.items) c.args.first.now.items c.args.more.now.items c.insert_in.new.piece.items
    c.args.more.now.items c.args.item c.requires.pieced (returns-then-at-eq0-clause-inserted g c) c.requires.pieced.non_empty

pub returns-then-at-eq0-clause-len : goal.returns-then-at-eq0-clause-len
returns-then-at-eq0-clause-len g c =
    let rest = flat_map (λ p. p.items) c.args.more.now.items in
    omega (arith, length-append c.insert_in.new.piece.items rest, length-append c.args.first.now.items rest, c.insert_in.ensures.len)

pub returns-then-at-eq0-clause-alone : goal.returns-then-at-eq0-clause-alone
returns-then-at-eq0-clause-alone g c = λ yes.
    find_none_about_first (λ p. p.items) (item_key g.T.Named.name_of g.T.Named.is_tree_of)
    (other_key g.T.Named.name_of g.T.Named.is_tree_of c.args.item) c.args.first.now.items c.args.more.now.items c.args.at c.len-count.result
    c.requires.pieced.ascending (c.insert_in.ensures.alone yes) (omega (arith, c.len-count.ensures))

-- into another piece
pub overflow_sub-count : goal.overflow_sub-count
overflow_sub-count g c =
    let key = item_key g.T.Named.name_of g.T.Named.is_tree_of in
    omega (arith, c.requires.at, c.len-count.ensures, prefix_len-le-length (λ p. begins_at_most key (key c.args.item) p.items) c.args.more.now.items)

pub index_mut-requires : goal.index_mut-requires
index_mut-requires g c =
    let key = item_key g.T.Named.name_of g.T.Named.is_tree_of in
    omega (arith, c.requires.at, c.if-at-eq0.false, prefix_len-le-length (λ p. begins_at_most key (key c.args.item) p.items) c.args.more.now.items)

pub insert_in-requires-2-clause-ascending : goal.insert_in-requires-2-clause-ascending
insert_in-requires-2-clause-ascending g c =
    let more = c.args.more.now.items in
    let key = item_key g.T.Named.name_of g.T.Named.is_tree_of in
    let low : c.args.at - 1 < length more =
    omega (arith, c.requires.at, c.if-at-eq0.false, prefix_len-le-length (λ p. begins_at_most key (key c.args.item) p.items) more) in
    subst (IsAscending key) (sym (ap (λ p. p.items) c.index_mut.ensures.value))
    (each_later_in_piece (λ p. p.items) _ more (c.args.at - 1) c.index_mut.result.now low
    (is_ascending_of_append_right key c.args.first.now.items _ c.requires.pieced.ascending))

pub insert_in-requires-2-clause-has_capacity : goal.insert_in-requires-2-clause-has_capacity
insert_in-requires-2-clause-has_capacity g c =
    let i = c.args.at - 1 in
    let held = holds_at_index (λ p. vec_len p < vec_capacity p) c.args.first.now c.args.more.now.items c.args.at i (omega (arith, c.if-at-eq0.false))
    c.requires.has_capacity in
    subst (λ p. vec_len p < vec_capacity p) (sym c.index_mut.ensures.value) (held c.index_mut.result.now)

pub returns-clause-inserted : goal.returns-clause-inserted
returns-clause-inserted g c =
    let more = c.args.more.now.items in
    let key = item_key g.T.Named.name_of g.T.Named.is_tree_of in
    let i = c.args.at - 1 in
    let low : i < length more =
    omega (arith, c.requires.at, c.if-at-eq0.false, prefix_len-le-length (λ p. begins_at_most key (key c.args.item) p.items) more) in
    let q = c.insert_in-2.new.piece in
    let is = c.insert_in-2.ensures.items
    ∙ ap (with_item key c.args.item) (ap (λ p. p.items) (c.index_mut.ensures.value ∙ get_or_default more i c.index_mut.result.now q low)) in
    with_item_joined_more (λ p. p.items) key c.args.item c.args.first.now.items more i q c.requires.pieced.ascending c.requires.pieced.non_empty
    (omega (arith, c.requires.at, c.if-at-eq0.false)) is

pub returns-clause-pieced : goal.returns-clause-pieced
returns-clause-pieced g c =
    let more = c.args.more.now.items in
    let key = item_key g.T.Named.name_of g.T.Named.is_tree_of in
    let i = c.args.at - 1 in
    let q = c.insert_in-2.new.piece in
    is_pieced_of_with_item g.T.Named.name_of g.T.Named.is_tree_of (λ p. p.items) c.args.first.now.items more c.args.first.now.items (set more i q)
    c.args.item c.requires.pieced (returns-clause-inserted g c)
    (are_non_empty_set (λ p. p.items) more i q
    (λ e. with_item_ne_nil key c.args.item c.index_mut.result.now.items (sym c.insert_in-2.ensures.items ∙ e)) c.requires.pieced.non_empty)

pub returns-clause-len : goal.returns-clause-len
returns-clause-len g c =
    let more = c.args.more.now.items in
    let key = item_key g.T.Named.name_of g.T.Named.is_tree_of in
    let i = c.args.at - 1 in
    let low : i < length more =
    omega (arith, c.requires.at, c.if-at-eq0.false, prefix_len-le-length (λ p. begins_at_most key (key c.args.item) p.items) more) in
    let q = c.insert_in-2.new.piece in
    let same = ap (λ p. length p.items) (c.index_mut.ensures.value ∙ get_or_default more i c.index_mut.result.now q low) in
    length_joined_longer (λ p. p.items) c.args.first.now.items more i q _ low (omega (arith, c.insert_in-2.ensures.len, same))

pub returns-clause-alone : goal.returns-clause-alone
returns-clause-alone g c = λ yes.
    let more = c.args.more.now.items in
    let key = item_key g.T.Named.name_of g.T.Named.is_tree_of in
    let other = other_key g.T.Named.name_of g.T.Named.is_tree_of c.args.item in
    let after = c.len-count.result - c.args.at in
    let i = c.args.at - 1 in
    let low : i < length more =
    omega (arith, c.requires.at, c.if-at-eq0.false, prefix_len-le-length (λ p. begins_at_most key (key c.args.item) p.items) more) in
    find_none_about_more (λ p. p.items) key other c.args.first.now.items more i c.args.at after c.index_mut.result.now c.requires.pieced.ascending low
    (subst (λ l. HasGap key other l c.args.at after) (ap (λ p. p.items) c.index_mut.ensures.value) (c.insert_in-2.ensures.alone yes))
    (omega (arith, c.if-at-eq0.false)) (omega (arith, low, c.len-count.ensures, c.if-at-eq0.false))
