use Rattle.std.proofs.Common.{◌↔◌, ◌<◌, Contains, IfOk, IsTrue, List, arith, inr, length, subst, sym, ℕ}
use Rattle.std.specs.List.{AllByRecursion}
use Rattle.gixobj_walks_marks.specs.Chosen.{IsBottomAt, ReachesWanted}
use Rattle.gixobj_walks_marks.proofs.Marked.{if_ok_then}
use Rattle.gixobj_walks_marks.proofs.SettledAt.{listed_are_inside, many_bottoms, settled_is_marked, walk_settled_answer, walk_unsettled_answer}
use Rattle.gixobj_walks_marks.proofs.Tests.{fails_if_false, holds_if_true}
use Rattle.gixobj_walks_marks.proofs.settled.is_settled_walk.Goals as goal

pub returns-then-not-are_wanted_marked-clause-unsettled : goal.returns-then-not-are_wanted_marked-clause-unsettled
returns-then-not-are_wanted_marked-clause-unsettled c = λ tips hidden on_left on_right settled.
    absurd (fails_if_false c.are_wanted_marked.result c.are_wanted_marked.ensures c.if-not-are_wanted_marked.true
    (settled_is_marked c.args.nodes.now tips hidden c.args.left.now c.args.right.now c.requires.left
    c.requires.right on_left on_right settled))

pub returns-then-len-gt-MOST-clause-unsettled : goal.returns-then-len-gt-MOST-clause-unsettled
returns-then-len-gt-MOST-clause-unsettled c = λ tips hidden on_left on_right settled.
    let many : 16 < length c.in_ok-found.found.items =
    omega (arith, c.if-len-gt-MOST.true, c.len.ensures, c.in_ok-found.found.ok.0) in
    inr (many_bottoms c.args.nodes.now c.args.left.now c.args.right.now c.in_ok-found.found.items many
    c.in_ok-found.ensures.listed tips hidden on_left on_right)

pub all_reach_wanted-requires-clause-starts : goal.all_reach_wanted-requires-clause-starts
all_reach_wanted-requires-clause-starts c =
    subst (λ (xs : List ℕ). AllByRecursion (λ start. start < length c.args.nodes.now) xs)
    (sym c.deref.ensures.value)
    (listed_are_inside (IsBottomAt c.args.nodes.now c.args.left.now c.args.right.now) (length c.args.nodes.now)
    c.in_ok-found.found.items c.in_ok-found.ensures.listed)

pub returns-clause-settled : goal.returns-clause-settled
returns-clause-settled c = if_ok_then c.all_reach_wanted.result
    (λ is decides. walk_settled_answer c.args.nodes.now c.args.left.now c.args.right.now c.in_ok-found.found.items is
    c.requires.left c.requires.right
    (holds_if_true c.are_wanted_marked.result c.are_wanted_marked.ensures c.if-not-are_wanted_marked.false)
    c.in_ok-found.ensures.listed decides)
    (subst (λ (xs : List ℕ). IfOk c.all_reach_wanted.result (λ is. IsTrue is ↔ ((start : ℕ) → Contains xs start
    → ReachesWanted c.args.nodes.now c.args.left.now c.args.right.now start)))
    c.deref.ensures.value c.all_reach_wanted.ensures.exact)

pub returns-clause-unsettled : goal.returns-clause-unsettled
returns-clause-unsettled c = if_ok_then c.all_reach_wanted.result
    (λ is decides. walk_unsettled_answer c.args.nodes.now c.args.left.now c.args.right.now c.in_ok-found.found.items is
    c.requires.left c.requires.right c.in_ok-found.ensures.listed decides)
    (subst (λ (xs : List ℕ). IfOk c.all_reach_wanted.result (λ is. IsTrue is ↔ ((start : ℕ) → Contains xs start
    → ReachesWanted c.args.nodes.now c.args.left.now c.args.right.now start)))
    c.deref.ensures.value c.all_reach_wanted.ensures.exact)
