-- The first edit that failed ends the search.
use Rattle.std.proofs.Common.{◌∙◌, sym}
use Rattle.gixobj_c_edit.proofs.Replied.{failure_of_first, failure_of_none, failure_of_rest}
use Rattle.gixobj_c_edit.proofs.replies.edits_failure.Goals as goal

pub returns-in-Some : goal.returns-in-Some
returns-in-Some c = sym (failure_of_first c.args.replies.now c.loop-reply.reply-index c.reply-item.result c.loop-reply-test.true c.reply-item.is
    c.loop-reply.invariant c.in-Some.failure (sym c.edit_reply_failure.ensures ∙ c.in-Some.is))

pub loop-reply-preserved : goal.loop-reply-preserved
loop-reply-preserved c = failure_of_rest c.args.replies.now c.loop-reply.reply-index c.reply-item.result c.loop-reply-test.true c.reply-item.is
    c.loop-reply.invariant (sym c.edit_reply_failure.ensures ∙ c.in_default.is)

pub returns : goal.returns
returns c = sym (failure_of_none c.args.replies.now c.loop-reply.reply-index c.loop-reply-test.false c.loop-reply.invariant)
