use Rattle.std.proofs.Common.{◌∙◌, ◌-◌, ◌<◌, length, refl, sym, ap, subst, arith}
use Rattle.std.specs.List.{flat_map}
use Rattle.std.proofs.lemmas.List.{get_or_default}
use Rattle.std.proofs.lemmas.List.Sums.{prefix_len-le-length}
use Rattle.gixobj_tree_entries.specs.KeyOrder.{key_of}
use Rattle.gixobj_editor_entries.specs.Pieces.{IsAscending, begins_at_most, item_key}
use Rattle.gixobj_editor_entries.proofs.Keys.{is_ascending_of_append_right}
use Rattle.gixobj_editor_entries.proofs.splits.split_at.Goals.{then-at-eq0+else-not-is_full+in_ok-split_first, else-at-eq0+else-not-is_full-2+in_ok-split_more}
use Rattle.gixobj_editor_entries.proofs.splits.split_at.Goals as goal

pub index-requires : goal.index-requires
index-requires g c =
    let key = item_key g.T.Named.name_of g.T.Named.is_tree_of in
    let k = key_of c.args.name.now c.args.is_tree in
    omega (arith, c.requires.at, c.if-at-eq0.false, prefix_len-le-length (λ p. begins_at_most key k p.items) c.args.more.now.items)

pub split_more-requires-clause-within : goal.split_more-requires-clause-within
split_more-requires-clause-within g c =
    let key = item_key g.T.Named.name_of g.T.Named.is_tree_of in
    let k = key_of c.args.name.now c.args.is_tree in
    omega (arith, c.requires.at, c.if-at-eq0.false, prefix_len-le-length (λ p. begins_at_most key k p.items) c.args.more.now.items)

pub split_more-requires-clause-long : goal.split_more-requires-clause-long
split_more-requires-clause-long g c d =
    let more = c.args.more.now.items in
    let key = item_key g.T.Named.name_of g.T.Named.is_tree_of in
    let k = key_of c.args.name.now c.args.is_tree in
    let i = c.args.at - 1 in
    let low : i < length more = omega (arith, c.requires.at, c.if-at-eq0.false, prefix_len-le-length (λ p. begins_at_most key k p.items) more) in
    subst (λ l. 1 < length l) (c.deref-else-at-eq0.ensures.value ∙ ap (λ p. p.items) (c.index.ensures ∙ get_or_default more i c.index.result.now d low))
    (c.if-not-is_full-2.ensures refl)

pub piece_of-requires-clause-ascending : goal.piece_of-requires-clause-ascending
piece_of-requires-clause-ascending g c =
    let key = item_key g.T.Named.name_of g.T.Named.is_tree_of in
    elim c.if-at-eq0.branch [
      | then-at-eq0+else-not-is_full+in_ok-split_first w ↦
          subst (λ l. IsAscending key (flat_map (λ p. p.items) l)) (sym (c.deref-2.ensures.value ∙ ap (λ v. v.items) w.more-is))
          (is_ascending_of_append_right key w.split_first.new.first.items _
          (subst (IsAscending key) (sym w.in_ok-split_first.ensures.unchanged) c.requires.pieced.ascending))
      | else-at-eq0+else-not-is_full-2+in_ok-split_more w ↦
          subst (λ l. IsAscending key (flat_map (λ p. p.items) l)) (sym (c.deref-2.ensures.value ∙ ap (λ v. v.items) w.more-is))
          (subst (IsAscending key) (sym w.in_ok-split_more.ensures.unchanged)
          (is_ascending_of_append_right key c.args.first.now.items _ c.requires.pieced.ascending))
    ]
