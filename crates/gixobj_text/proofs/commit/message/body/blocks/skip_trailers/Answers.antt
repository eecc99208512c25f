use Rattle.gixobj_text.proofs.Steps.{is_after_trailers_at_end}
use Rattle.gixobj_text.proofs.commit.message.body.blocks.skip_trailers.Goals as goal

pub returns : goal.returns
returns c = is_after_trailers_at_end c.args.content.now c.lines.rest.now c.lines.invariant c.in_default.ensures
