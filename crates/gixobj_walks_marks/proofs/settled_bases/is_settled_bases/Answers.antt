use Rattle.std.proofs.Common.{◌↔◌, ◌<◌, Contains, IfOk, IsTrue, List, arith, inr, length, subst, sym, ℕ}
use Rattle.std.specs.List.{AllByRecursion}
use Rattle.gixobj_walks_graph.specs.Graph.{IsRead}
use Rattle.gixobj_walks_graph.specs.Numbered.{graph_at}
use Rattle.gixobj_walks_marks.specs.Chosen.{IsCandidateAt, ReachesWanted}
use Rattle.gixobj_walks_marks.proofs.Marked.{if_ok_then}
use Rattle.gixobj_walks_marks.proofs.SettledAt.{listed_are_inside}
use Rattle.gixobj_walks_marks.proofs.SharedMarks.{bases_settled_answer, bases_unsettled_answer, many_candidates, settled_bases_are_read}
use Rattle.gixobj_walks_marks.proofs.SharedMarks.{settled_bases_are_shared}
use Rattle.gixobj_walks_marks.proofs.Tests.{fails_if_false, holds_if_true}
use Rattle.gixobj_walks_marks.proofs.settled_bases.is_settled_bases.Goals as goal

pub returns-then-not-are_wanted_shared-clause-unsettled : goal.returns-then-not-are_wanted_shared-clause-unsettled
returns-then-not-are_wanted_shared-clause-unsettled c = λ one other on_left on_right settled.
    let shared = settled_bases_are_shared c.args.nodes.now one other c.args.left.now c.args.right.now c.requires.left
    c.requires.right on_left on_right settled in
    absurd (fails_if_false c.are_wanted_shared.result c.are_wanted_shared.ensures c.if-not-are_wanted_shared.true
    ((λ number wanted. (shared number wanted).0), (λ number wanted. (shared number wanted).1)))

pub returns-then-len-gt-MOST-clause-unsettled : goal.returns-then-len-gt-MOST-clause-unsettled
returns-then-len-gt-MOST-clause-unsettled c = λ one other on_left on_right settled.
    let many : 16 < length c.in_ok-found.found.items =
    omega (arith, c.if-len-gt-MOST.true, c.len.ensures, c.in_ok-found.found.ok.0) in
    inr (many_candidates c.args.nodes.now c.args.left.now c.args.right.now c.in_ok-found.found.items c.requires.left
    many c.in_ok-found.ensures.listed one other on_left on_right)

pub are_read-requires : goal.are_read-requires
are_read-requires c =
    subst (λ (xs : List ℕ). AllByRecursion (λ start. start < length c.args.nodes.now) xs)
    (sym c.deref.ensures.value)
    (listed_are_inside (IsCandidateAt c.args.nodes.now c.args.left.now c.args.right.now)
    (length c.args.nodes.now) c.in_ok-found.found.items c.in_ok-found.ensures.listed)

pub returns-then-not-are_read-clause-unsettled : goal.returns-then-not-are_read-clause-unsettled
returns-then-not-are_read-clause-unsettled c = λ one other on_left on_right settled.
    absurd (fails_if_false c.are_read.result
    (subst (λ (xs : List ℕ). IsTrue c.are_read.result
    ↔ ((number : ℕ) → Contains xs number → IsRead (graph_at c.args.nodes.now) number))
    c.deref.ensures.value c.are_read.ensures)
    c.if-not-are_read.true
    (settled_bases_are_read c.args.nodes.now one other c.args.left.now c.args.right.now
    c.in_ok-found.found.items c.requires.left c.in_ok-found.ensures.listed on_left on_right settled))

pub all_reach_wanted-requires-clause-starts : goal.all_reach_wanted-requires-clause-starts
all_reach_wanted-requires-clause-starts c =
    subst (λ (xs : List ℕ). AllByRecursion (λ start. start < length c.args.nodes.now) xs)
    (sym c.deref-2.ensures.value)
    (listed_are_inside (IsCandidateAt c.args.nodes.now c.args.left.now c.args.right.now)
    (length c.args.nodes.now) c.in_ok-found.found.items c.in_ok-found.ensures.listed)

pub returns-clause-settled : goal.returns-clause-settled
returns-clause-settled c =
    let shared = holds_if_true c.are_wanted_shared.result c.are_wanted_shared.ensures c.if-not-are_wanted_shared.false in
    let read = holds_if_true c.are_read.result
    (subst (λ (xs : List ℕ). IsTrue c.are_read.result
    ↔ ((number : ℕ) → Contains xs number → IsRead (graph_at c.args.nodes.now) number))
    c.deref.ensures.value c.are_read.ensures)
    c.if-not-are_read.false in
    if_ok_then c.all_reach_wanted.result
    (λ is decides. bases_settled_answer c.args.nodes.now c.args.left.now c.args.right.now c.in_ok-found.found.items is
    c.requires.left c.requires.right shared.0 shared.1 c.in_ok-found.ensures.listed read decides)
    (subst (λ (xs : List ℕ). IfOk c.all_reach_wanted.result (λ is. IsTrue is ↔ ((start : ℕ) → Contains xs start
    → ReachesWanted c.args.nodes.now c.args.left.now c.args.right.now start)))
    c.deref-2.ensures.value c.all_reach_wanted.ensures.exact)

pub returns-clause-unsettled : goal.returns-clause-unsettled
returns-clause-unsettled c = if_ok_then c.all_reach_wanted.result
    (λ is decides. bases_unsettled_answer c.args.nodes.now c.args.left.now c.args.right.now c.in_ok-found.found.items is
    c.requires.left c.requires.right c.in_ok-found.ensures.listed decides)
    (subst (λ (xs : List ℕ). IfOk c.all_reach_wanted.result (λ is. IsTrue is ↔ ((start : ℕ) → Contains xs start
    → ReachesWanted c.args.nodes.now c.args.left.now c.args.right.now start)))
    c.deref-2.ensures.value c.all_reach_wanted.ensures.exact)
