-- The id that the reply at an index reports.
use Rattle.std.proofs.Common.{rules}
use Rattle.gixobj_examples_edits.proofs.Rebuilt.{names_written_of_reply, written_at_none_of_failure, written_at_none_past_end}
use Rattle.gixobj_examples_edits.proofs.rebuilder.id_written.Goals as goal

pub returns-in_default-clause-none : goal.returns-in_default-clause-none
returns-in_default-clause-none g c = written_at_none_past_end c.args.replies.now c.args.position (search (rules, c.in_default.ensures))

pub returns-in-Some-id_in-clause-found : goal.returns-in-Some-id_in-clause-found
returns-in-Some-id_in-clause-found g c =
    names_written_of_reply c.args.replies.now c.args.position c.in-Some.reply.now c.in-Some-id_in.id c.in-Some.ensures.lookup.3.0 c.in-Some.ensures.lookup.1
    c.in-Some-id_in.ensures

pub returns-in-None-clause-none : goal.returns-in-None-clause-none
returns-in-None-clause-none g c = written_at_none_of_failure c.args.replies.now c.args.position c.in-Some.reply.now c.in-Some.ensures.lookup.3.0
    c.in-Some.ensures.lookup.1
    c.in-None.ensures
