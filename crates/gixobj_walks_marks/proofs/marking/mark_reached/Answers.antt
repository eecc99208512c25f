use Rattle.std.proofs.Common.{◌≡◌, ◌<◌, List, ℕ, [], ◌∷◌, length, arith, subst}
use Rattle.gixobj_walks_marks.specs.Spreading.{Spreads}
use Rattle.gixobj_walks_marks.proofs.Marked.{empty_list, on_err, read_unmarked}
use Rattle.gixobj_walks_marks.proofs.Spread.{IsSpreading, marked_already, spreading_begins, spreading_ends, spreading_goes_on, spreading_is_closed}
use Rattle.gixobj_walks_marks.proofs.Spread.{top_is_inside}
use Rattle.gixobj_walks_marks.proofs.marking.mark_reached.Goals as goal

pub returns-then-marked-from-clause-reached : goal.returns-then-marked-from-clause-reached
returns-then-marked-from-clause-reached c = marked_already c.args.nodes.now c.args.marked.now c.args.from
    c.requires.closed (omega (arith, c.requires.from, c.requires.lengths)) c.if-marked-from.true

pub returns-in_err-mark-clause-allocates : goal.returns-in_err-mark-clause-allocates
returns-in_err-mark-clause-allocates c = on_err c.from_residual.result
    (read_unmarked c.args.marked.now c.args.from c.if-marked-from.false)

pub loop-number-init : goal.loop-number-init
loop-number-init c = spreading_begins c.args.nodes.now c.args.marked.now c.mark.new.marked c.args.from
    c.mark.new.stack.items c.requires.closed
    (subst (λ (xs : List ℕ). Spreads (c.args.from ∷ []) c.args.marked.now c.mark.new.marked xs c.mark.new.stack.items)
    c.new-stack.ensures.items c.in_ok-mark.ensures)

pub mark_parents-requires-clause-number : goal.mark_parents-requires-clause-number
mark_parents-requires-clause-number c =
    let inside : c.in-Some.number < length c.loop-number.marked = top_is_inside c.args.nodes.now c.args.marked.now
    c.loop-number.marked c.args.from c.in-Some.number c.loop-number.stack.items c.pop.new.self.items
    c.in-Some.ensures.items c.loop-number.invariant in
    omega (arith, c.requires.lengths, c.loop-number.auto.marked)

pub loop-number-preserved : goal.loop-number-preserved
loop-number-preserved c = spreading_goes_on c.args.nodes.now c.args.marked.now c.loop-number.marked
    c.mark_parents.new.marked c.args.from c.in-Some.number c.loop-number.stack.items c.pop.new.self.items
    c.mark_parents.new.stack.items c.requires.closed c.in-Some.ensures.items c.loop-number.invariant
    c.in_ok-mark_parents.ensures

pub returns-in_err-mark_parents-clause-allocates : goal.returns-in_err-mark_parents-clause-allocates
returns-in_err-mark_parents-clause-allocates c = on_err c.from_residual-in_err-mark_parents.result
    (read_unmarked c.args.marked.now c.args.from c.if-marked-from.false)

pub returns-clause-reached : goal.returns-clause-reached
returns-clause-reached c =
    let none : length c.loop-number.stack.items ≡ 0 = omega (arith, c.in_default.ensures.cases) in
    spreading_ends c.args.nodes.now c.args.marked.now c.loop-number.marked c.args.from
    (subst (λ (xs : List ℕ). IsSpreading c.args.nodes.now c.args.marked.now c.args.from c.loop-number.marked xs)
    (empty_list c.loop-number.stack.items none) c.loop-number.invariant)

pub returns-clause-closed : goal.returns-clause-closed
returns-clause-closed c =
    let none : length c.loop-number.stack.items ≡ 0 = omega (arith, c.in_default.ensures.cases) in
    spreading_is_closed c.args.nodes.now c.args.marked.now c.loop-number.marked c.args.from
    (subst (λ (xs : List ℕ). IsSpreading c.args.nodes.now c.args.marked.now c.args.from c.loop-number.marked xs)
    (empty_list c.loop-number.stack.items none) c.loop-number.invariant)
