-- Each reply's frames come after those of the replies before it.
use Rattle.std.specs.List.{flat_map}
use Rattle.gixobj_c_edit.proofs.FollowingFrames.{error_of_residual, frames_all, frames_error_at, frames_snoc, lossless_all, lossless_snoc}
use Rattle.gixobj_c_edit.proofs.frames.append_each.Goals as goal
use Rattle.gixobj_c_edit.specs.Frames.{IsFramesEncodeError}
use Rattle.gixobj_editor.specs.Commands.{pairs_of_edit}

pub loop-reply-preserved : goal.loop-reply-preserved
loop-reply-preserved c = (
  frames_snoc pairs_of_edit c.args.replies.now c.loop-reply.reply-index c.reply-item.result c.loop-reply-test.true c.reply-item.is
      c.args.frames.now.items _ _ c.loop-reply.invariant.0 c.in_ok-append_written.ensures.appended,
  lossless_snoc pairs_of_edit c.args.replies.now c.loop-reply.reply-index c.reply-item.result c.loop-reply-test.true c.reply-item.is c.args.hash
      c.loop-reply.invariant.1 c.in_ok-append_written.ensures.lossless,
)

pub returns-in_err-append_written-clause-error : goal.returns-in_err-append_written-clause-error
returns-in_err-append_written-clause-error c = error_of_residual c.from_residual.result c.in_err-append_written.field-0.0
    (IsFramesEncodeError c.args.hash (flat_map pairs_of_edit c.args.replies.now)) c.from_residual.ensures.1
    (frames_error_at pairs_of_edit c.args.replies.now c.loop-reply.reply-index c.reply-item.result c.loop-reply-test.true c.reply-item.is c.args.hash _
    c.in_err-append_written.ensures.error)

pub returns-clause-appended : goal.returns-clause-appended
returns-clause-appended c = frames_all pairs_of_edit c.args.replies.now c.loop-reply.reply-index c.args.frames.now.items _ c.loop-reply-test.false
    c.loop-reply.invariant.0

pub returns-clause-lossless : goal.returns-clause-lossless
returns-clause-lossless c = lossless_all pairs_of_edit c.args.replies.now c.loop-reply.reply-index c.args.hash c.loop-reply-test.false
    c.loop-reply.invariant.1
