use Rattle.gixobj_tokens.proofs.TagRuns.{Searches}
use Rattle.gixobj_tokens.specs.TagTokenSteps.{IsTaggerToken}
use Rattle.gixobj_tokens.proofs.tag.TagRefIter.tagger.Given as goal

abbrev pub invariant-loop-item : goal.invariant-loop-item
invariant-loop-item l = Searches IsTaggerToken l.fn.self l.item-iterator
