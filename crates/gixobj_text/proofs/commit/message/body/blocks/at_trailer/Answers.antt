use Rattle.gixobj_text.proofs.Steps.{is_at_trailer_at_end}
use Rattle.gixobj_text.proofs.commit.message.body.blocks.at_trailer.Goals as goal

pub returns : goal.returns
returns c = is_at_trailer_at_end c.args.content.now c.lines.rest.now c.lines.invariant c.in_default.ensures
