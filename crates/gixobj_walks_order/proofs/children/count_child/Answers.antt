use Rattle.std.proofs.Common.{◌≡◌, ◌+◌, ◌<◌, ◌∙◌, ℕ, List, ap, arith, cond, eqb, false, length, nat_eq, slice_index, subst, sym, take}
use Rattle.std.proofs.lemmas.Bool.{eq-eqb, ne_eqb}
use Rattle.gixobj_walks_order.specs.Counts.{AreBelow, is_named}
use Rattle.gixobj_walks_order.proofs.Named.{after_again, below_set, counted_more, named_more, stamped_more}
use Rattle.gixobj_walks_order.proofs.children.count_child.Goals as goal
use Rattle.gixobj_walks_order.proofs.children.count_child.Goals.{then-stamps-parent, else-stamps-parent}

pub loop-parent-preserved : goal.loop-parent-preserved
loop-parent-preserved c =
    let ps = c.args.parents.now in
    let i = c.loop-parent.parent-index in
    let p = slice_index ps i in
    let stamp = c.args.stamp in
    let inv = c.loop-parent.invariant in
    let less : i < length ps = c.loop-parent-test.true in
    let known : p < length c.args.counts.now = c.requires.known i less in
    let old = c.loop-parent.counts in
    let marks = c.loop-parent.stamps in
    let more = λ (q : ℕ). named_more q ps i less in
    let within : p < length old = omega arith in
    let stamp_within : p < length marks = omega arith in
    elim c.if-stamps-parent.branch [
      | then-stamps-parent w ↦
          let new : eqb (slice_index marks p) stamp ≡ false = ne_eqb (slice_index marks p) stamp w.if-stamps-parent.true in
          record {
            counted = λ q small. subst
                (λ (xs : List ℕ). slice_index xs q ≡ slice_index c.args.counts.now q + cond {A = ℕ} (is_named q (take (i + 1) ps)) 1 0)
                (sym w.counts-is)
                (counted_more q p (is_named q (take i ps)) (is_named q (take (i + 1) ps)) (more q) old marks stamp
                (slice_index c.args.counts.now q) within stamp_within new (inv.stamped q small) (inv.counted q small));
            stamped = λ q small. subst
                (λ (xs : List ℕ). nat_eq (slice_index xs q) stamp ≡ is_named q (take (i + 1) ps))
                (sym w.stamps-is)
                (stamped_more q p (is_named q (take i ps)) (is_named q (take (i + 1) ps)) (more q) old marks stamp
                (slice_index c.args.counts.now q) within stamp_within new (inv.stamped q small));
            seen = subst (λ (xs : List ℕ). AreBelow (stamp + 1) xs) (sym w.stamps-is)
                (below_set (stamp + 1) marks p stamp inv.seen (omega arith) stamp_within);
          }
      | else-stamps-parent w ↦
          let again = λ (q : ℕ) (small : q < length c.args.counts.now).
          after_again q p (is_named q (take i ps)) (is_named q (take (i + 1) ps)) (more q)
          (λ same. sym (inv.stamped q small) ∙ ap (λ k. nat_eq (slice_index marks k) stamp) same
          ∙ eq-eqb (slice_index marks p) stamp w.if-stamps-parent.false) in
          record {
            counted = λ q small. ap (λ (xs : List ℕ). slice_index xs q) w.counts-is ∙ inv.counted q small
                ∙ ap (λ b. slice_index c.args.counts.now q + cond {A = ℕ} b 1 0) (sym (again q small));
            stamped = λ q small. ap (λ (xs : List ℕ). nat_eq (slice_index xs q) stamp) w.stamps-is ∙ inv.stamped q small
                ∙ sym (again q small);
            seen = subst (λ (xs : List ℕ). AreBelow (stamp + 1) xs) (sym w.stamps-is) inv.seen;
          }
    ]
