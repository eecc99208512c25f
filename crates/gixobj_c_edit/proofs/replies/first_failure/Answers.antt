-- The first failed edit ends the search.
use Rattle.std.proofs.Common.{◌∙◌, sym}
use Rattle.gixobj_c_edit.proofs.Replied.{all_done, done_snoc, is_first_failure}
use Rattle.gixobj_c_edit.proofs.replies.first_failure.Goals as goal

pub returns-in-Some : goal.returns-in-Some
returns-in-Some c = is_first_failure c.args.replies.now c.loop-index.index c.index-replies-index.result c.loop-index-test.true c.index-replies-index.is
    c.loop-index.invariant c.in-Some.failure (sym c.reply_failure.ensures ∙ c.in-Some.is)

pub loop-index-preserved : goal.loop-index-preserved
loop-index-preserved c = done_snoc c.args.replies.now c.loop-index.index c.index-replies-index.result c.loop-index-test.true c.index-replies-index.is
    c.loop-index.invariant (sym c.reply_failure.ensures ∙ c.in_default.is)

pub returns : goal.returns
returns c = all_done c.args.replies.now c.loop-index.index c.loop-index-test.false c.loop-index.invariant
