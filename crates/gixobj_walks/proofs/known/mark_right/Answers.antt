-- The start at the index is marked after those that follow it.
use Rattle.std.proofs.Common.{◌≡◌, ◌∙◌, ◌+◌, ◌-◌, ◌<◌, arith, drop, length, subst, sym}
use Rattle.gixobj_walks_marks.specs.Marks.{HasMarks}
use Rattle.gixobj_walks.proofs.Starts.{marks_from_index}
use Rattle.gixobj_walks.proofs.known.mark_right.Goals as goal

pub loop-index-preserved : goal.loop-index-preserved
loop-index-preserved c =
    let inside : c.loop-index.index - 1 < length c.args.starts.now = omega arith in
    let before : c.loop-index.index ≡ (c.loop-index.index - 1) + 1 = omega arith in
    record {
      nodes = c.in_ok-reading.ensures.nodes ∙ c.loop-index.invariant.nodes;
      marked = subst (λ it. HasMarks it (drop (c.loop-index.index - 1) c.args.starts.now) c.in_ok-reading.reading.right)
          (sym c.in_ok-reading.ensures.nodes)
          (marks_from_index c.loop-index.reading.nodes c.args.starts.now c.loop-index.reading.right c.in_ok-reading.reading.right
          (c.loop-index.index - 1) inside c.in_ok-reading.ensures.right
          (subst (λ n. HasMarks c.loop-index.reading.nodes (drop n c.args.starts.now) c.loop-index.reading.right) before
          c.loop-index.invariant.marked));
      other = c.in_ok-reading.ensures.left ∙ c.loop-index.invariant.other;
      within = omega arith;
    }
