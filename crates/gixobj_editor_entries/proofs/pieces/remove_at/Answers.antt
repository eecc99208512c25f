-- What the removal makes of the one piece, it makes of the list, in the first piece or another one. They are the
-- clauses of `remove_at`.
use Rattle.std.proofs.Common.{◌≡◌, ◌∙◌, ◌-◌, ◌+◌, ◌<◌, ◌++◌, cond, set, length, length-append, refl, sym, ap, subst, arith}
use Rattle.std.specs.List.{flat_map}
use Rattle.std.proofs.lemmas.List.{get_or_default}
use Rattle.std.proofs.lemmas.List.Sums.{prefix_len-le-length}
use Rattle.gixobj_tree_entries.specs.KeyOrder.{key_of}
use Rattle.gixobj_editor_entries.specs.Pieces.{AreNonEmpty, IsAscending, begins_at_most, item_key, joined, without_key}
use Rattle.gixobj_editor_entries.proofs.Joined.{are_non_empty_remove, are_non_empty_set, each_later_in_piece, flat_map_remove_empty, is_pieced_of_without_key}
use Rattle.gixobj_editor_entries.proofs.Joined.{length_joined_shorter, without_key_joined_first, without_key_joined_more}
use Rattle.gixobj_editor_entries.proofs.Keys.{is_ascending_of_append_left, is_ascending_of_append_right}
use Rattle.gixobj_editor_entries.proofs.pieces.remove_at.Goals as goal

-- from the first piece
pub remove_in-requires : goal.remove_in-requires
remove_in-requires g c = is_ascending_of_append_left (item_key g.T.Named.name_of g.T.Named.is_tree_of) c.args.first.now.items _ c.requires.pieced.ascending

pub returns-then-at-eq0-clause-removed : goal.returns-then-at-eq0-clause-removed
returns-then-at-eq0-clause-removed g c =
    let more = c.args.more.now.items in
    let key = item_key g.T.Named.name_of g.T.Named.is_tree_of in
    let k = key_of c.args.name.now c.args.is_tree in
    ap (λ l. l ++ flat_map (λ p. p.items) more) c.remove_in.ensures.items
    ∙ without_key_joined_first (λ p. p.items) key k c.args.first.now.items more c.requires.pieced.ascending c.requires.pieced.non_empty
    (omega (arith, c.requires.at, c.if-at-eq0.true))

pub returns-then-at-eq0-clause-pieced : goal.returns-then-at-eq0-clause-pieced
returns-then-at-eq0-clause-pieced g c =
    is_pieced_of_without_key g.T.Named.name_of g.T.Named.is_tree_of (λ p. p.items) c.args.first.now.items c.args.more.now.items c.remove_in.new.piece.items
    c.args.more.now.items (key_of c.args.name.now c.args.is_tree) c.requires.pieced (returns-then-at-eq0-clause-removed g c) c.requires.pieced.non_empty

pub returns-then-at-eq0-clause-len : goal.returns-then-at-eq0-clause-len
returns-then-at-eq0-clause-len g c =
    let rest = flat_map (λ p. p.items) c.args.more.now.items in
    omega (arith, length-append c.remove_in.new.piece.items rest, length-append c.args.first.now.items rest, c.remove_in.ensures.len)

-- from another piece
pub index_mut-piece-requires : goal.index_mut-piece-requires
index_mut-piece-requires g c =
    let key = item_key g.T.Named.name_of g.T.Named.is_tree_of in
    let k = key_of c.args.name.now c.args.is_tree in
    omega (arith, c.requires.at, c.if-at-eq0.false, prefix_len-le-length (λ p. begins_at_most key k p.items) c.args.more.now.items)

pub remove_in-removed-requires : goal.remove_in-removed-requires
remove_in-removed-requires g c =
    let more = c.args.more.now.items in
    let key = item_key g.T.Named.name_of g.T.Named.is_tree_of in
    let k = key_of c.args.name.now c.args.is_tree in
    let i = c.args.at - 1 in
    let low : i < length more = omega (arith, c.requires.at, c.if-at-eq0.false, prefix_len-le-length (λ p. begins_at_most key k p.items) more) in
    subst (IsAscending key) (sym (ap (λ p. p.items) c.index_mut-piece.ensures.value))
    (each_later_in_piece (λ p. p.items) _ more i c.index_mut-piece.result.now low
    (is_ascending_of_append_right key c.args.first.now.items _ c.requires.pieced.ascending))

-- the piece has items afterwards
pub returns-then-not-has_no_items-clause-removed : goal.returns-then-not-has_no_items-clause-removed
returns-then-not-has_no_items-clause-removed g c =
    let more = c.args.more.now.items in
    let key = item_key g.T.Named.name_of g.T.Named.is_tree_of in
    let k = key_of c.args.name.now c.args.is_tree in
    let i = c.args.at - 1 in
    let low : i < length more = omega (arith, c.requires.at, c.if-at-eq0.false, prefix_len-le-length (λ p. begins_at_most key k p.items) more) in
    let q = c.remove_in-removed.new.piece in
    let is = c.remove_in-removed.ensures.items
    ∙ ap (without_key key k) (ap (λ p. p.items) (c.index_mut-piece.ensures.value ∙ get_or_default more i c.index_mut-piece.result.now q low)) in
    without_key_joined_more (λ p. p.items) key k c.args.first.now.items more i q c.requires.pieced.ascending c.requires.pieced.non_empty
    (omega (arith, c.requires.at, c.if-at-eq0.false)) is

pub returns-then-not-has_no_items-clause-pieced : goal.returns-then-not-has_no_items-clause-pieced
returns-then-not-has_no_items-clause-pieced g c =
    let more = c.args.more.now.items in
    let i = c.args.at - 1 in
    let q = c.remove_in-removed.new.piece in
    is_pieced_of_without_key g.T.Named.name_of g.T.Named.is_tree_of (λ p. p.items) c.args.first.now.items more c.args.first.now.items (set more i q)
    (key_of c.args.name.now c.args.is_tree) c.requires.pieced (returns-then-not-has_no_items-clause-removed g c)
    (are_non_empty_set (λ p. p.items) more i q (λ e. c.if-not-has_no_items.ensures.non_empty refl (c.deref.ensures.value ∙ e)) c.requires.pieced.non_empty)

pub returns-then-not-has_no_items-clause-len : goal.returns-then-not-has_no_items-clause-len
returns-then-not-has_no_items-clause-len g c =
    let more = c.args.more.now.items in
    let key = item_key g.T.Named.name_of g.T.Named.is_tree_of in
    let k = key_of c.args.name.now c.args.is_tree in
    let i = c.args.at - 1 in
    let low : i < length more = omega (arith, c.requires.at, c.if-at-eq0.false, prefix_len-le-length (λ p. begins_at_most key k p.items) more) in
    let q = c.remove_in-removed.new.piece in
    let same = ap (λ p. length p.items) (c.index_mut-piece.ensures.value ∙ get_or_default more i c.index_mut-piece.result.now q low) in
    length_joined_shorter (λ p. p.items) c.args.first.now.items more i q _ low (omega (arith, c.remove_in-removed.ensures.len, same))

-- the piece is removed
pub remove-requires : goal.remove-requires
remove-requires g c =
    let key = item_key g.T.Named.name_of g.T.Named.is_tree_of in
    let k = key_of c.args.name.now c.args.is_tree in
    omega (arith, c.requires.at, c.if-at-eq0.false, prefix_len-le-length (λ p. begins_at_most key k p.items) c.args.more.now.items)

pub returns-clause-removed : goal.returns-clause-removed
returns-clause-removed g c =
    let more = c.args.more.now.items in
    let key = item_key g.T.Named.name_of g.T.Named.is_tree_of in
    let k = key_of c.args.name.now c.args.is_tree in
    let i = c.args.at - 1 in
    let low : i < length more = omega (arith, c.requires.at, c.if-at-eq0.false, prefix_len-le-length (λ p. begins_at_most key k p.items) more) in
    let q = c.remove_in-removed.new.piece in
    let is = c.remove_in-removed.ensures.items
    ∙ ap (without_key key k) (ap (λ p. p.items) (c.index_mut-piece.ensures.value ∙ get_or_default more i c.index_mut-piece.result.now q low)) in
    let removed = without_key_joined_more (λ p. p.items) key k c.args.first.now.items more i q c.requires.pieced.ascending c.requires.pieced.non_empty
    (omega (arith, c.requires.at, c.if-at-eq0.false)) is in
    let gone : joined (λ p. p.items) c.args.first.now.items c.remove.new.self.items ≡ without_key key k (joined (λ p. p.items) c.args.first.now.items more) =
    ap (λ l. c.args.first.now.items ++ flat_map (λ p. p.items) l) c.remove.ensures.items
    ∙ ap (λ l. c.args.first.now.items ++ l)
    (flat_map_remove_empty (λ p. p.items) more i q low (sym c.deref.ensures.value ∙ c.if-not-has_no_items.ensures.empty refl)) ∙ removed in
    gone

pub returns-clause-pieced : goal.returns-clause-pieced
returns-clause-pieced g c =
    let more = c.args.more.now.items in
    is_pieced_of_without_key g.T.Named.name_of g.T.Named.is_tree_of (λ p. p.items) c.args.first.now.items more c.args.first.now.items c.remove.new.self.items
    (key_of c.args.name.now c.args.is_tree) c.requires.pieced (returns-clause-removed g c)
    (subst (AreNonEmpty (λ p. p.items)) (sym c.remove.ensures.items)
    (are_non_empty_remove (λ p. p.items) more (c.args.at - 1) c.remove_in-removed.new.piece c.requires.pieced.non_empty))

pub returns-clause-len : goal.returns-clause-len
returns-clause-len g c =
    let more = c.args.more.now.items in
    let key = item_key g.T.Named.name_of g.T.Named.is_tree_of in
    let k = key_of c.args.name.now c.args.is_tree in
    let first = c.args.first.now.items in
    let i = c.args.at - 1 in
    let low : i < length more = omega (arith, c.requires.at, c.if-at-eq0.false, prefix_len-le-length (λ p. begins_at_most key k p.items) more) in
    let q = c.remove_in-removed.new.piece in
    let same = ap (λ p. length p.items) (c.index_mut-piece.ensures.value ∙ get_or_default more i c.index_mut-piece.result.now q low) in
    let shorter : length (joined (λ p. p.items) first (set more i q)) + cond c.remove_in-removed.result 1 0 ≡ length (joined (λ p. p.items) first more) =
    length_joined_shorter (λ p. p.items) first more i q _ low (omega (arith, c.remove_in-removed.ensures.len, same)) in
    let gone = ap (λ l. length (first ++ flat_map (λ p. p.items) l)) c.remove.ensures.items
    ∙ ap (λ l. length (first ++ l))
    (flat_map_remove_empty (λ p. p.items) more i q low (sym c.deref.ensures.value ∙ c.if-not-has_no_items.ensures.empty refl)) in
    omega (arith, shorter, gone)
