use Rattle.std.proofs.Common.{◌∙◌, ◌-◌, ◌<◌, length, ap, subst, arith}
use Rattle.gixobj_tree_entries.specs.KeyOrder.{key_of}
use Rattle.gixobj_editor_entries.specs.Pieces.{HasGap, item_key}
use Rattle.gixobj_editor_entries.proofs.Neighbours.{find_none_about_more}
use Rattle.gixobj_editor_entries.proofs.gaps.is_past_end.Goals as goal

pub returns : goal.returns
returns g c = λ yes first pieced.
    let more = c.args.more.now in
    let key = item_key g.T.Named.name_of g.T.Named.is_tree_of in
    let k = key_of c.args.name.now c.args.is_tree in
    let j = length more - 1 in
    let low : j < length more = omega (arith, c.if-count-eq0.false) in
    find_none_about_more (λ p. p.items) key k first more j (length more) 0 c.index-more-count.result pieced.ascending low
    (subst (λ l. HasGap key k l (length more) 0) (c.deref-last.ensures.value ∙ ap (λ p. p.items) c.index-more-count.is) (c.is_gap.ensures yes))
    (omega (arith, c.if-count-eq0.false)) (omega (arith, c.if-count-eq0.false))
