-- The frames so far are in the stores.
use Rattle.std.proofs.Common.{length}
use Rattle.gixobj_c_edit.proofs.FrameSteps.{FramesSoFar}
use Rattle.gixobj_c_edit.proofs.frames.given_of.Given as goal

abbrev pub invariant-frames : goal.invariant-frames
invariant-frames l = FramesSoFar l.fn.hash l.fn.bytes l.rest l.given

abbrev pub decreases-frames : goal.decreases-frames
decreases-frames l = length l.rest
