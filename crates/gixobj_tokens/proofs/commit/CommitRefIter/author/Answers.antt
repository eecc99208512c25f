use Rattle.std.proofs.lemmas.Result.{err_from_is_err_and}
use Rattle.gixobj_tokens.proofs.CommitRuns.{ends_search_at_end, ends_search_at_required_error, searches_snoc}
use Rattle.gixobj_hash.specs.Runs.{complete}
use Rattle.gixobj_tokens.specs.TokenSearch.{IsAuthorToken}
use Rattle.gixobj_tokens.proofs.commit.CommitRefIter.author.Goals as goal

pub returns-in_err-token-clause-error : goal.returns-in_err-token-clause-error
returns-in_err-token-clause-error c =
    let from = err_from_is_err_and c.from_residual.result c.from_residual.ensures.1 in
    rw from.1 (ends_search_at_required_error IsAuthorToken c.args.self c.loop-item.item-iterator c.next.new.self c.in-Some.item from.0
    c.in_err-token.field-0.0 from.2
    c.loop-item.invariant c.in-Some.ensures.steps c.in_err-token.was)

pub loop-item-preserved-in_default : goal.loop-item-preserved-in_default
loop-item-preserved-in_default c = searches_snoc IsAuthorToken c.args.self c.loop-item.item-iterator c.next.new.self c.in-Some.item c.in_ok-token.token
    c.loop-item.invariant c.in-Some.ensures.steps c.in_ok-token.was c.in_default.ensures

pub loop-item-preserved-in_default-2 : goal.loop-item-preserved-in_default-2
loop-item-preserved-in_default-2 c = searches_snoc IsAuthorToken c.args.self c.loop-item.item-iterator c.next.new.self c.in-Some.item c.in_ok-token.token
    c.loop-item.invariant c.in-Some.ensures.steps c.in_ok-token.was c.in_default.ensures

pub loop-item-preserved : goal.loop-item-preserved
loop-item-preserved c = searches_snoc IsAuthorToken c.args.self c.loop-item.item-iterator c.next.new.self c.in-Some.item c.in_ok-token.token
    c.loop-item.invariant
    c.in-Some.ensures.steps c.in_ok-token.was c.in_default.ensures

pub returns-clause-error : goal.returns-clause-error
returns-clause-error c = (
  complete,
  ends_search_at_end IsAuthorToken c.args.self c.loop-item.item-iterator c.next.new.self c.loop-item.invariant
      c.in-None.ensures.steps,
)
