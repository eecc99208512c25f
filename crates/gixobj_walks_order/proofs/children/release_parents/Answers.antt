use Rattle.std.proofs.Common.{◌≡◌, ◌+◌, ◌-◌, ◌<◌, ◌∙◌, ◌∷◌, ◌++◌, ◌&&◌, ◌==◌, [], set, ap, arith, drop, eqb, false, length, reverse, slice_index, subst, sym}
use Rattle.std.proofs.lemmas.Bool.{and_left, and_right, ne_eqb}
use Rattle.std.proofs.lemmas.List.{get_or-set_same, reverse-append}
use Rattle.gixobj_walks_order.specs.Counts.{freed_parents, is_marked}
use Rattle.gixobj_walks_order.proofs.Named.{below_set, first_count, named_at, freed_no, freed_yes, released_at, stamped_at}
use Rattle.gixobj_walks_order.proofs.children.release_parents.Goals as goal
use Rattle.gixobj_walks_order.proofs.children.release_parents.Goals.{else-counts-parent-eq0-via-then-counts-parent-eq0+else-selected-parent}
use Rattle.gixobj_walks_order.proofs.children.release_parents.Goals.{else-counts-parent-eq0-via-else-counts-parent-eq0}

pub loop-left-preserved-then-selected-parent : goal.loop-left-preserved-then-selected-parent
loop-left-preserved-then-selected-parent c =
    let ps = c.args.parents.now in
    let left = c.loop-left.left in
    let i = left - 1 in
    let p = slice_index ps i in
    let stamp = c.args.stamp in
    let first = c.args.counts.now in
    let inv = c.loop-left.invariant in
    let next : left ≡ i + 1 = omega arith in
    let less : i < length ps = omega arith in
    let within : p < length first = c.requires.known i less in
    let old = c.loop-left.counts in
    let marks = c.loop-left.stamps in
    let len : length old ≡ length first = omega arith in
    let stamps_len : length marks ≡ length old = omega arith in
    let new : eqb (slice_index marks p) stamp ≡ false = ne_eqb (slice_index marks p) stamp c.if-stamps-parent.true in
    let same : slice_index old p ≡ slice_index first p =
    first_count first old marks ps stamp left i next less len stamps_len within new inv.stamped inv.counted in
    let some : 0 < slice_index old p = subst (λ n. 0 < n) (sym same) (c.requires.counted p (named_at ps i less)) in
    let none : slice_index (set old p (slice_index old p - 1)) p ≡ 0 = c.if-counts-parent-eq0.true in
    let here : slice_index (set old p (slice_index old p - 1)) p ≡ slice_index old p - 1 = get_or-set_same old p (slice_index old p - 1) 0 (omega arith) in
    let freed = freed_yes first old marks ps stamp left i next less len stamps_len within new inv.stamped
    c.args.selected.now c.if-selected-parent.true (omega arith) in
    record {
      within = omega arith;
      counted = released_at first old marks ps stamp left i next less len stamps_len within new inv.stamped some inv.counted;
      stamped = stamped_at first old marks ps stamp left i next less len stamps_len within new inv.stamped;
      seen = below_set (stamp + 1) marks p stamp inv.seen (omega arith) (omega arith);
      ready = c.in_ok-push.ensures.items ∙ ap (λ xs. xs ++ p ∷ []) inv.ready
          ∙ sym (reverse-append (p ∷ []) (freed_parents c.args.selected.now first (drop left ps)))
          ∙ ap reverse (sym freed);
    }

pub loop-left-preserved-else-counts-parent-eq0 : goal.loop-left-preserved-else-counts-parent-eq0
loop-left-preserved-else-counts-parent-eq0 c =
    let ps = c.args.parents.now in
    let left = c.loop-left.left in
    let i = left - 1 in
    let p = slice_index ps i in
    let stamp = c.args.stamp in
    let first = c.args.counts.now in
    let inv = c.loop-left.invariant in
    let next : left ≡ i + 1 = omega arith in
    let less : i < length ps = omega arith in
    let within : p < length first = c.requires.known i less in
    let old = c.loop-left.counts in
    let marks = c.loop-left.stamps in
    let len : length old ≡ length first = omega arith in
    let stamps_len : length marks ≡ length old = omega arith in
    let new : eqb (slice_index marks p) stamp ≡ false = ne_eqb (slice_index marks p) stamp c.if-stamps-parent.true in
    let same : slice_index old p ≡ slice_index first p =
    first_count first old marks ps stamp left i next less len stamps_len within new inv.stamped inv.counted in
    let some : 0 < slice_index old p = subst (λ n. 0 < n) (sym same) (c.requires.counted p (named_at ps i less)) in
    let here : slice_index (set old p (slice_index old p - 1)) p ≡ slice_index old p - 1 = get_or-set_same old p (slice_index old p - 1) 0 (omega arith) in
    let other : (is_marked c.args.selected.now p && (slice_index first p == 1)) ≡ false =
    elim c.else-counts-parent-eq0.branch [
      | else-counts-parent-eq0-via-then-counts-parent-eq0+else-selected-parent w ↦
          and_left (is_marked c.args.selected.now p) (slice_index first p == 1) w.if-selected-parent.false
      | else-counts-parent-eq0-via-else-counts-parent-eq0 w ↦
          let some_left : slice_index (set old p (slice_index old p - 1)) p ≡ 0 → ⊥ = w.if-counts-parent-eq0.false in
          and_right (is_marked c.args.selected.now p) (slice_index first p == 1)
          (ne_eqb (slice_index first p) 1 (λ one. some_left (omega arith)))
    ] in
    record {
      within = omega arith;
      counted = released_at first old marks ps stamp left i next less len stamps_len within new inv.stamped some inv.counted;
      stamped = stamped_at first old marks ps stamp left i next less len stamps_len within new inv.stamped;
      seen = below_set (stamp + 1) marks p stamp inv.seen (omega arith) (omega arith);
      ready = inv.ready ∙ ap reverse (sym (freed_no first old marks ps stamp left i next less len stamps_len within new inv.stamped
          c.args.selected.now other));
    }
