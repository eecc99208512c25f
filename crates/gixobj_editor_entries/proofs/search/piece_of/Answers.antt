-- Each comparison with a piece's first item narrows the number of pieces.
use Rattle.std.proofs.Common.{◌≡◌, ◌∙◌, ◌<◌, false, true, length, sym, ap, subst, arith}
use Rattle.std.proofs.lemmas.List.Sums.{prefix_len-le-length}
use Rattle.gixobj_tree_entries.specs.KeyOrder.{key_of}
use Rattle.gixobj_editor_entries.specs.Pieces.{begins_at_most, item_key}
use Rattle.gixobj_editor_entries.proofs.Keys.{begins_at_most_prefix_closed}
use Rattle.gixobj_editor_entries.proofs.PrefixLengths.{lt_prefix_len_of_passes, prefix_len_le_of_fails}
use Rattle.gixobj_editor_entries.proofs.search.piece_of.Goals.{then-begins_at_most, else-begins_at_most}
use Rattle.gixobj_editor_entries.proofs.search.piece_of.Goals as goal

pub loop-low-init : goal.loop-low-init
loop-low-init g c = record {
  ordered = omega arith;
  within = omega arith;
  next = λ some. (omega arith, c.last_look-middle.ensures some);
  minimum = omega arith;
  maximum = prefix_len-le-length _ _;
}

pub loop-low-preserved : goal.loop-low-preserved
loop-low-preserved g c =
    let ps = c.args.more.now in
    let key = item_key g.T.Named.name_of g.T.Named.is_tree_of in
    let k = key_of c.args.name.now c.args.is_tree in
    let m = c.loop-low.middle in
    let p = c.index-more-middle.result in
    let before = c.loop-low.invariant in
    let next = before.next c.loop-low-test.true in
    let within : m < length ps = omega (arith, next.1, before.within) in
    let test : begins_at_most key k p.items ≡ c.begins_at_most.result = sym (c.begins_at_most.ensures ∙ ap (begins_at_most key k) c.deref.ensures.value) in
    elim c.if-begins_at_most.branch [
      | then-begins_at_most w ↦
          let closed = begins_at_most_prefix_closed key k (λ q. q.items) ps c.requires.ascending c.requires.non_empty in
          let up = lt_prefix_len_of_passes (λ q. begins_at_most key k q.items) ps closed m p within
          (subst (λ q. begins_at_most key k q.items ≡ true) c.index-more-middle.is (test ∙ w.if-begins_at_most.true)) in
          record {
            ordered = omega (arith, next, w.low-is, w.high-is);
            within = omega (arith, before.within, w.high-is);
            next = λ remaining. (omega arith, omega (arith, remaining));
            minimum = omega (arith, up, w.low-is);
            maximum = omega (arith, before.maximum, w.high-is);
          }
      | else-begins_at_most w ↦
          let down = prefix_len_le_of_fails (λ q. begins_at_most key k q.items) ps m p
          (subst (λ q. begins_at_most key k q.items ≡ false) c.index-more-middle.is (test ∙ w.if-begins_at_most.false)) in
          record {
            ordered = omega (arith, next, w.low-is, w.high-is);
            within = omega (arith, within, w.high-is);
            next = λ remaining. (omega arith, omega (arith, remaining));
            minimum = omega (arith, before.minimum, w.low-is);
            maximum = omega (arith, down, w.high-is);
          }
    ]
