-- Each call adds the token that it found; at the end there are all.
use Rattle.gixobj_c.proofs.CursorRuns.{all_tokens, calls_advance, has_tokens_next, has_tokens_none, no_memory_for_token, status_of_run}
use Rattle.gixobj_c_codes.specs.Codes.{hash_of_code as hash_of}
use Rattle.gixobj_c.proofs.laws.commit_tokens.Goals as goal

pub calls-init : goal.calls-init
calls-init c = has_tokens_none (hash_of c.args.hash) c.args.commit.now _ c.new-tokens.ensures.items

pub returns-then-status-eq-AT_END : goal.returns-then-status-eq-AT_END
returns-then-status-eq-AT_END c = all_tokens (hash_of c.args.hash) c.args.commit.now _ _ _ _ _ _ c.calls.invariant c.gixobj_commit_token-status.ensures
    c.if-status-eq-AT_END.true

pub calls-smaller : goal.calls-smaller
calls-smaller c = calls_advance (hash_of c.args.hash) c.args.commit.now _ _ _ _ _ _ c.calls.invariant c.gixobj_commit_token-status.ensures
    c.if-status-ne-DONE.false

pub calls-preserved : goal.calls-preserved
calls-preserved c = has_tokens_next (hash_of c.args.hash) c.args.commit.now _ _ _ _ _ _ _ c.calls.invariant c.gixobj_commit_token-status.ensures
    c.if-status-ne-DONE.false c.in-Ok.ensures.items

pub returns-then-status-ne-DONE : goal.returns-then-status-ne-DONE
returns-then-status-ne-DONE c = status_of_run (hash_of c.args.hash) c.args.commit.now _ _ _ _ _ _ c.calls.invariant c.gixobj_commit_token-status.ensures
    c.if-status-eq-AT_END.false c.if-status-ne-DONE.true

pub returns-in_default : goal.returns-in_default
returns-in_default c = no_memory_for_token (hash_of c.args.hash) c.args.commit.now _ _ _ _ _ _ c.calls.invariant c.gixobj_commit_token-status.ensures
    c.if-status-ne-DONE.false
