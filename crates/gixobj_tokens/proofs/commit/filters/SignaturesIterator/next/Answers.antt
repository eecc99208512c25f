use Rattle.gixobj_tokens.proofs.CommitRuns.{reads_no_token_at_end, reads_no_token_of_error, searches_snoc}
use Rattle.gixobj_tokens.specs.TokenSearch.{IsActorToken}
use Rattle.gixobj_tokens.proofs.commit.filters.SignaturesIterator.next.Goals as goal

pub returns-in_default-item-clause-steps : goal.returns-in_default-item-clause-steps
returns-in_default-item-clause-steps c = reads_no_token_of_error IsActorToken c.args.self.now.tokens c.loop-item.self.tokens c.next.new.self c.in-Some.item
    c.in_default-item.field-0 c.loop-item.invariant c.in-Some.ensures.steps c.in_default-item.is

pub loop-item-preserved-in_default-as_actor :
    goal.loop-item-preserved-in_default-as_actor
loop-item-preserved-in_default-as_actor c = searches_snoc IsActorToken c.args.self.now.tokens c.loop-item.self.tokens c.next.new.self c.in-Some.item
    c.in-Ok.token
    c.loop-item.invariant c.in-Some.ensures.steps c.in-Ok.is c.in_default-as_actor.ensures

pub loop-item-preserved-in_default-as_actor-2 :
    goal.loop-item-preserved-in_default-as_actor-2
loop-item-preserved-in_default-as_actor-2 c = searches_snoc IsActorToken c.args.self.now.tokens c.loop-item.self.tokens c.next.new.self c.in-Some.item
    c.in-Ok.token c.loop-item.invariant c.in-Some.ensures.steps c.in-Ok.is c.in_default-as_actor.ensures

pub loop-item-preserved :
    goal.loop-item-preserved
loop-item-preserved c = searches_snoc IsActorToken c.args.self.now.tokens c.loop-item.self.tokens c.next.new.self c.in-Some.item c.in-Ok.token
    c.loop-item.invariant c.in-Some.ensures.steps c.in-Ok.is c.in_default-as_actor.ensures

pub returns-clause-steps : goal.returns-clause-steps
returns-clause-steps c = reads_no_token_at_end IsActorToken c.args.self.now.tokens c.loop-item.self.tokens c.next.new.self c.loop-item.invariant
    c.in_default.ensures.steps
