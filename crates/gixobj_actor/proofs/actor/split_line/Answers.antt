-- The parts that are split from the left are those of an actor line.
use Rattle.std.proofs.Common.{rules}
use Rattle.gixobj_actor.proofs.ActorLines.{line_of_splits, malformed_without_opening_bracket, malformed_without_closing_bracket}
use Rattle.gixobj_actor.proofs.actor.split_line.Goals as goal

pub returns-in_err-content-clause-none : goal.returns-in_err-content-clause-none
returns-in_err-content-clause-none c = rw c.from_residual.ensures (malformed_without_opening_bracket _ c.in_err-content.ensures.none)

pub returns-in_err-email-clause-none : goal.returns-in_err-email-clause-none
returns-in_err-email-clause-none c =
    rw c.from_residual-in_err-email.ensures (malformed_without_closing_bracket _ _ _ c.in_ok-content.ensures.found c.in_err-email.ensures.none)

pub returns-clause-found : goal.returns-clause-found
returns-clause-found c =
    rw (c.new.ensures, c.new-2.ensures, c.new-3.ensures) (line_of_splits _ _ _ _ _ record {
      name_bytes = c.in_ok-content.content.now;
      following = c.in_ok-content.after_less_than.now;
      after = c.in_ok-email.after.now;
      gap = c.without_gap.ensures.0;
      tail = c.without_gap.result.now;
      one_line = search rules;
      first = c.in_ok-content.ensures.found;
      last = c.in_ok-email.ensures.found;
      skipped = c.without_gap.ensures.1;
      spaced = c.without_gap.ensures.2;
      joined = c.split_time.ensures.joined;
      named = c.without_final_space.ensures;
      timed = c.split_time.ensures.time;
      ends = c.split_time.ensures.ends;
    })
