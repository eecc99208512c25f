use Rattle.std.proofs.Common.{◌∙◌, ◌-◌, ◌<◌, Less, suc, length, sym, subst, arith}
use Rattle.std.proofs.lemmas.Bool.{eqb-true}
use Rattle.gixobj_tree_entries.specs.KeyOrder.{key_of}
use Rattle.gixobj_editor_entries.specs.Pieces.{IsLessBefore, item_key}
use Rattle.gixobj_editor_entries.proofs.BinarySearch.{less_of_compare, looked}
use Rattle.gixobj_editor_entries.proofs.gaps.is_less_before.Goals as goal

pub returns-then-index-eq0 : goal.returns-then-index-eq0
returns-then-index-eq0 g c = λ yes.
    subst (λ n. IsLessBefore (item_key g.T.Named.name_of g.T.Named.is_tree_of) (key_of c.args.name.now c.args.is_tree) c.args.items.now n c.args.before)
    (sym c.if-index-eq0.true) (eqb-true c.args.before 0 yes)

pub returns : goal.returns
returns g c = λ yes.
    let xs = c.args.items.now in
    let key = item_key g.T.Named.name_of g.T.Named.is_tree_of in
    let k = key_of c.args.name.now c.args.is_tree in
    let i = c.args.index - 1 in
    let low : i < length xs = omega (arith, c.if-index-eq0.false, c.if-index-items.false) in
    subst (λ n. IsLessBefore key k xs n c.args.before) {x = suc i} (omega (arith, c.if-index-eq0.false)) (
      low,
      looked key xs k i c.index-items-index.result low c.index-items-index.is Less
          (sym c.order_by_key.ensures ∙ less_of_compare _ (sym c.is_lt.ensures ∙ yes)),
    )
