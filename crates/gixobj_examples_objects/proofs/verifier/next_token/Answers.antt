use Rattle.std.proofs.Common.{Some, subst}
use Rattle.gixobj_examples_objects.proofs.Yielded.{no_end_before_tokens, first_token_yielded}
use Rattle.gix_object.specs.TagTokenSteps.{NextTagToken}
use Rattle.gixobj_examples_objects.proofs.verifier.next_token.Goals as goal

pub returns-in_err-token-clause-none : goal.returns-in_err-token-clause-none
returns-in_err-token-clause-none c =
    rw c.from_residual.ensures
    (λ first others is. no_end_before_tokens c.tag_tokens_decode_uniquely.ensures.one_run c.args.reader.now c.next.new.self first others
    c.in_err-token.ensures.steps is)

pub returns-in-Ok-clause-found : goal.returns-in-Ok-clause-found
returns-in-Ok-clause-found c = λ first others is.
    let gives = subst (λ it. NextTagToken c.args.reader.now (Some it) c.next.new.self) c.in-Ok.is c.in_ok-token.ensures.steps in
    first_token_yielded c.tag_tokens_decode_uniquely.ensures.one_token c.args.reader.now c.next.new.self c.in-Ok.token first others gives is
