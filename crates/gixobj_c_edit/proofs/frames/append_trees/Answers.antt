-- Each tree's frame comes after those of the trees before it.
use Rattle.std.proofs.Common.{All, List, subst}
use Rattle.std.proofs.lemmas.List.{take_all}
use Rattle.gixobj_c_edit.proofs.FollowingFrames.{error_of_residual, tree_error_at, tree_frames_snoc, lossless_trees_snoc}
use Rattle.gixobj_c_edit.proofs.frames.append_trees.Goals as goal
use Rattle.gixobj_c_edit.specs.Frames.{IsFramesEncodeError}
use Rattle.gixobj_c_edit.specs.Lossy.{IsLossless}
use Rattle.gixobj_tree_entries.specs.Entries.{Pair}

pub loop-id-preserved : goal.loop-id-preserved
loop-id-preserved c = (
  tree_frames_snoc c.args.hash c.args.trees.now c.loop-id.id-index c.loop-id-item.result c.loop-id-test.true c.loop-id-item.is c.args.frames.now.items _ _
      c.loop-id.invariant.0 c.in_ok-append_frame.ensures.appended,
  lossless_trees_snoc c.args.hash c.args.trees.now c.loop-id.id-index c.loop-id-item.result c.loop-id-test.true c.loop-id-item.is
      c.loop-id.invariant.1 c.in_ok-append_frame.ensures.lossless,
)

pub returns-in_err-append_frame-clause-error : goal.returns-in_err-append_frame-clause-error
returns-in_err-append_frame-clause-error c = error_of_residual c.from_residual.result c.in_err-append_frame.field-0.0
    (IsFramesEncodeError c.args.hash c.args.trees.now) c.from_residual.ensures.1
    (tree_error_at c.args.hash c.args.trees.now c.loop-id.id-index c.loop-id-item.result c.loop-id-test.true c.loop-id-item.is _
    c.in_err-append_frame.ensures.error)

pub returns-clause-lossless : goal.returns-clause-lossless
returns-clause-lossless c = subst (λ (them : List Pair). All (λ (pair : Pair). IsLossless c.args.hash pair.1) them)
    (take_all c.loop-id.id-index c.args.trees.now c.loop-id-test.false) c.loop-id.invariant.1
