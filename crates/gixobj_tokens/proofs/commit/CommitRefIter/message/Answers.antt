use Rattle.std.proofs.Common.{inr}
use Rattle.std.proofs.lemmas.Result.{err_from_is_err_and}
use Rattle.gixobj_tokens.proofs.CommitRuns.{ends_search_at_end, ends_search_at_optional_error, searches_snoc}
use Rattle.gixobj_tokens.specs.TokenSearch.{IsMessageToken}
use Rattle.gixobj_tokens.proofs.commit.CommitRefIter.message.Goals as goal

pub returns-in_err-token-clause-error : goal.returns-in_err-token-clause-error
returns-in_err-token-clause-error c =
    let from = err_from_is_err_and c.from_residual.result c.from_residual.ensures.1 in
    rw from.1 (ends_search_at_optional_error IsMessageToken c.args.self c.loop-answer.answer-iterator c.next.new.self c.in-Some.answer from.0
    c.in_err-token.field-0.0 from.2
    c.loop-answer.invariant c.in-Some.ensures.steps c.in_err-token.was)

pub loop-answer-preserved-in_default : goal.loop-answer-preserved-in_default
loop-answer-preserved-in_default c = searches_snoc IsMessageToken c.args.self c.loop-answer.answer-iterator c.next.new.self c.in-Some.answer c.in_ok-token.token
    c.loop-answer.invariant c.in-Some.ensures.steps c.in_ok-token.was c.in_default.ensures

pub loop-answer-preserved-in_default-2 : goal.loop-answer-preserved-in_default-2
loop-answer-preserved-in_default-2 c = searches_snoc IsMessageToken c.args.self c.loop-answer.answer-iterator c.next.new.self c.in-Some.answer
    c.in_ok-token.token
    c.loop-answer.invariant c.in-Some.ensures.steps c.in_ok-token.was c.in_default.ensures

pub loop-answer-preserved : goal.loop-answer-preserved
loop-answer-preserved c = searches_snoc IsMessageToken c.args.self c.loop-answer.answer-iterator c.next.new.self c.in-Some.answer c.in_ok-token.token
    c.loop-answer.invariant c.in-Some.ensures.steps c.in_ok-token.was c.in_default.ensures

pub returns-clause-found : goal.returns-clause-found
returns-clause-found c = inr
    (ends_search_at_end IsMessageToken c.args.self c.loop-answer.answer-iterator c.next.new.self c.loop-answer.invariant c.in-None.ensures.steps, c.new.ensures)
