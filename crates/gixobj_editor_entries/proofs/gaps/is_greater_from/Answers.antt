use Rattle.std.proofs.Common.{◌∙◌, ◌<◌, Greater, length, sym, arith}
use Rattle.std.proofs.lemmas.Bool.{eqb-true}
use Rattle.gixobj_tree_entries.specs.KeyOrder.{key_of}
use Rattle.gixobj_editor_entries.specs.Pieces.{item_key}
use Rattle.gixobj_editor_entries.proofs.BinarySearch.{greater_of_compare, looked}
use Rattle.gixobj_editor_entries.proofs.gaps.is_greater_from.Goals as goal

pub returns-then-index-items : goal.returns-then-index-items
returns-then-index-items g c = λ yes. (λ low. absurd (omega (arith, low, c.if-index-items.true)), λ past. eqb-true c.args.after 0 yes)

pub returns : goal.returns
returns g c = λ yes.
    let xs = c.args.items.now in
    let low : c.args.index < length xs = omega (arith, c.if-index-items.false) in (
      λ _. looked (item_key g.T.Named.name_of g.T.Named.is_tree_of) xs (key_of c.args.name.now c.args.is_tree) c.args.index c.index-items-index.result low
          c.index-items-index.is Greater (sym c.order_by_key.ensures ∙ greater_of_compare _ (sym yes ∙ c.is_gt.ensures)),
      λ past. absurd (omega (arith, past, low)),
    )
