use Rattle.std.proofs.Common.{sym, ◌∙◌}
use Rattle.std.proofs.lemmas.Bool.{false≢true}
use Rattle.gixobj_tag.proofs.PlainNames.{is_dotted_of_last, is_dotted_step, not_is_dotted_at_end}
use Rattle.gixobj_tag.proofs.name.faults.is_dotted.Goals as goal

pub returns-then-not-may_follow : goal.returns-then-not-may_follow
returns-then-not-may_follow c = (
  λ passes. absurd (false≢true passes),
  λ dotted. absurd (not_is_dotted_at_end c.args.name.now c.loop-byte.byte-index c.loop-byte.before c.loop-byte-test.true
      (sym c.may_follow.ensures ∙ c.if-not-may_follow.true) c.loop-byte.invariant dotted),
)

pub loop-byte-preserved : goal.loop-byte-preserved
loop-byte-preserved c =
    is_dotted_step c.args.name.now c.loop-byte.byte-index c.loop-byte.before c.loop-byte-test.true (sym c.may_follow.ensures ∙ c.if-not-may_follow.false)
    c.loop-byte.invariant

pub returns : goal.returns
returns c = is_dotted_of_last c.args.name.now c.loop-byte.byte-index c.loop-byte.before c.loop-byte-test.false c.loop-byte.invariant
