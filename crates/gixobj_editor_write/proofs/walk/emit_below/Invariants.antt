use Rattle.std.proofs.Common.{◌+◌, Ok}
use Rattle.std.specs.Prelude.{reverse}
use Rattle.std.specs.Fn.{CalledAt}
use Rattle.gixobj_editor_write.specs.Calls.{IsCallableOnTrees}
use Rattle.gixobj_editor_write.specs.Frames.{frame_weight}
use Rattle.gixobj_editor_write.proofs.WaitingFrames.{IsUnderWay, frames_weight}
use Rattle.gixobj_editor_write.proofs.walk.emit_below.Given as goal

-- what came of the frames so far
abbrev pub invariant-frames : goal.invariant-frames
invariant-frames g l = record {
  so : IsUnderWay (λ f p h. CalledAt g.F.FnMut f p.1 (Ok p.0) h) l.fn.node l.fn.out l.out l.fn.pairs.items l.pairs.items l.fn.saved l.saved
      (reverse l.above.items) l.frame;
  callable : IsCallableOnTrees (λ f tree. g.F.FnMut.pre f (tree, tt)) (λ f p h. CalledAt g.F.FnMut f p.1 (Ok p.0) h) l.out;
}

abbrev pub decreases-frames : goal.decreases-frames
decreases-frames g l = frame_weight l.frame + frames_weight l.above.items
