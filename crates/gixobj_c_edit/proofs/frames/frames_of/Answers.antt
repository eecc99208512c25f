-- Each reply's frames come after those of the replies before it.
use Rattle.std.proofs.Common.{[]}
use Rattle.gixobj_c_edit.proofs.FollowingFrames.{error_of_residual, frames_all, frames_error_at, frames_snoc, lossless_all, lossless_snoc}
use Rattle.gixobj_c_edit.proofs.frames.frames_of.Goals as goal
use Rattle.gixobj_c_edit.specs.Frames.{IsFramesEncodeError}
use Rattle.gixobj_editor.specs.Commands.{emitted_pairs, pairs_of}

pub loop-reply-preserved : goal.loop-reply-preserved
loop-reply-preserved c = (
  frames_snoc pairs_of c.args.replies.now c.loop-reply.reply-index c.reply-item.result c.loop-reply-test.true c.reply-item.is [] _ _
      c.loop-reply.invariant.0 c.in_ok-append_reply.ensures.appended,
  lossless_snoc pairs_of c.args.replies.now c.loop-reply.reply-index c.reply-item.result c.loop-reply-test.true c.reply-item.is c.args.hash
      c.loop-reply.invariant.1 c.in_ok-append_reply.ensures.lossless,
)

pub returns-in_err-append_reply-clause-error : goal.returns-in_err-append_reply-clause-error
returns-in_err-append_reply-clause-error c = error_of_residual c.from_residual.result c.in_err-append_reply.field-0.0
    (IsFramesEncodeError c.args.hash (emitted_pairs c.args.replies.now)) c.from_residual.ensures.1
    (frames_error_at pairs_of c.args.replies.now c.loop-reply.reply-index c.reply-item.result c.loop-reply-test.true c.reply-item.is c.args.hash _
    c.in_err-append_reply.ensures.error)

pub returns-clause-found : goal.returns-clause-found
returns-clause-found c = frames_all pairs_of c.args.replies.now c.loop-reply.reply-index [] _ c.loop-reply-test.false c.loop-reply.invariant.0

pub returns-clause-lossless : goal.returns-clause-lossless
returns-clause-lossless c = lossless_all pairs_of c.args.replies.now c.loop-reply.reply-index c.args.hash c.loop-reply-test.false c.loop-reply.invariant.1
