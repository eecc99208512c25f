use Rattle.std.proofs.Common.{List, ℕ, subst, sym}
use Rattle.std.proofs.lemmas.List.{take_more}
use Rattle.gixobj_walks_marks.specs.Spreading.{Spreads}
use Rattle.gixobj_walks_marks.proofs.Spread.{spreads_on}
use Rattle.gixobj_walks_marks.proofs.marking.mark_each.Goals as goal

pub loop-number-preserved : goal.loop-number-preserved
loop-number-preserved c = subst
    (λ (xs : List ℕ). Spreads xs c.args.marked.now c.mark.new.marked c.args.stack.now.items c.mark.new.stack.items)
    (sym (take_more c.args.numbers.now c.loop-number.number-index 0 c.loop-number-test.true))
    (spreads_on _ _ _ _ _ _ _ _ c.loop-number.invariant c.in_ok-mark.ensures)
