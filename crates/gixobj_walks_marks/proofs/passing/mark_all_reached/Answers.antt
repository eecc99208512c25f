use Rattle.std.proofs.Common.{List, ℕ, get_or, subst, sym, take}
use Rattle.std.proofs.lemmas.List.{take_more}
use Rattle.gixobj_walks_marks.specs.Spreading.{MarksReached}
use Rattle.gixobj_walks_marks.proofs.Kept.{marks_of_more, marks_of_none}
use Rattle.gixobj_walks_marks.proofs.passing.mark_all_reached.Goals as goal

pub loop-start-init : goal.loop-start-init
loop-start-init c = record {
  marks = marks_of_none c.args.nodes.now c.args.marked.now;
  closed = c.requires.closed;
}

pub loop-start-preserved : goal.loop-start-preserved
loop-start-preserved c = record {
  marks = subst
      (λ (xs : List ℕ). MarksReached c.args.nodes.now xs c.args.marked.now c.mark_reached.new.marked)
      (sym (take_more c.args.starts.now c.loop-start.start-index 0 c.loop-start-test.true))
      (marks_of_more c.args.nodes.now (take c.loop-start.start-index c.args.starts.now)
      (get_or c.args.starts.now c.loop-start.start-index 0) c.args.marked.now c.loop-start.marked
      c.mark_reached.new.marked c.loop-start.invariant.marks c.in_ok-mark_reached.ensures.reached);
  closed = c.in_ok-mark_reached.ensures.closed;
}
