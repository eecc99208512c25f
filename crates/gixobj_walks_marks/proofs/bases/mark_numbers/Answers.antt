use Rattle.std.proofs.Common.{◌<◌, ℕ, List, Contains, arith, get_or, length, subst, sym, take, true}
use Rattle.std.proofs.Math.ListN.{set}
use Rattle.std.proofs.lemmas.List.{take_more}
use Rattle.std.proofs.lemmas.List.Elements.{Contains-get_or}
use Rattle.gixobj_walks_marks.specs.Chosen.{AddsMarks}
use Rattle.gixobj_walks_marks.proofs.Marked.{each_contained, nothing_contained}
use Rattle.gixobj_walks_marks.proofs.SharedMarks.{adds_more, adds_none}
use Rattle.gixobj_walks_marks.proofs.bases.mark_numbers.Goals as goal

pub loop-number-init : goal.loop-number-init
loop-number-init c = adds_none (Contains (take 0 c.args.numbers.now)) c.args.marked.now.items
    (λ number has. nothing_contained number has)

pub loop-number-preserved : goal.loop-number-preserved
loop-number-preserved c =
    let number : ℕ = get_or c.args.numbers.now c.loop-number.number-index 0 in
    let known : number < length c.args.marked.now.items =
    each_contained (λ (n : ℕ). n < length c.args.marked.now.items) c.args.numbers.now number c.requires
    (Contains-get_or c.args.numbers.now c.loop-number.number-index 0 c.loop-number-test.true) in
    subst (λ (xs : List ℕ). AddsMarks (Contains xs) c.args.marked.now.items
    (set c.loop-number.marked.items number true))
    (sym (take_more c.args.numbers.now c.loop-number.number-index 0 c.loop-number-test.true))
    (adds_more (take c.loop-number.number-index c.args.numbers.now) c.args.marked.now.items
    c.loop-number.marked.items number (omega (arith, known, c.loop-number.invariant.length_is))
    c.loop-number.invariant)
