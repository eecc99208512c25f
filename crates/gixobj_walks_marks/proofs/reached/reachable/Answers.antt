-- The start at the index is marked after those that follow it.
use Rattle.std.proofs.Common.{◌≡◌, ◌∙◌, ◌+◌, ◌-◌, ◌<◌, arith, drop, length, subst}
use Rattle.gixobj_walks_marks.specs.Marks.{HasMarks}
use Rattle.gixobj_walks_marks.proofs.FromStart.{marks_from_start}
use Rattle.gixobj_walks_marks.proofs.reached.reachable.Goals as goal

pub loop-index-preserved : goal.loop-index-preserved
loop-index-preserved c =
    let inside : c.loop-index.index - 1 < length c.args.starts.now = omega arith in
    let before : c.loop-index.index ≡ (c.loop-index.index - 1) + 1 = omega arith in
    record {
      lengths = c.in_ok-mark_start.ensures.lengths ∙ c.loop-index.invariant.lengths;
      closed = c.in_ok-mark_start.ensures.closed;
      marked = marks_from_start c.args.nodes.now c.args.starts.now c.loop-index.marks.items c.mark_start.new.marked.items
          (c.loop-index.index - 1) inside c.in_ok-mark_start.ensures.added
          (subst (λ n. HasMarks c.args.nodes.now (drop n c.args.starts.now) c.loop-index.marks.items) before c.loop-index.invariant.marked);
      within = omega arith;
    }
