use Rattle.std.proofs.Common.{refl}
use Rattle.std.proofs.lemmas.Result.{err_from_is_err_and}
use Rattle.gixobj_hash.specs.Runs.{complete}
use Rattle.gixobj_tokens.proofs.TagRuns.{is_not_tagger_token, yields_none_at_end, yields_none_at_error, searches_snoc}
use Rattle.gixobj_tokens.specs.TagTokenSteps.{IsTaggerToken}
use Rattle.gixobj_tokens.proofs.tag.TagRefIter.tagger.Goals as goal

pub returns-in_err-token-clause-error : goal.returns-in_err-token-clause-error
returns-in_err-token-clause-error c =
    let from = err_from_is_err_and c.from_residual.result c.from_residual.ensures.1 in
    rw from.1 (yields_none_at_error IsTaggerToken c.args.self c.loop-item.item-iterator c.next.new.self c.in-Some.item from.0 c.in_err-token.field-0.0 from.2
    c.loop-item.invariant c.in-Some.ensures.steps c.in_err-token.was)

pub loop-item-preserved : goal.loop-item-preserved
loop-item-preserved c =
    searches_snoc IsTaggerToken c.args.self c.loop-item.item-iterator c.next.new.self c.in-Some.item c.in_ok-token.token c.loop-item.invariant
    c.in-Some.ensures.steps c.in_ok-token.was (is_not_tagger_token c.in_ok-token.token c.in_default.not-Tagger)

pub returns-clause-error : goal.returns-clause-error
returns-clause-error c = (
  refl,
  (complete, yields_none_at_end IsTaggerToken c.args.self c.loop-item.item-iterator c.next.new.self c.loop-item.invariant c.in-None.ensures.steps),
)
