use Rattle.std.proofs.Common.{rules}
use Rattle.gixobj_text.proofs.commit.message.body.line_counts.other_of.Goals as goal

pub returns-then-above-clause-value : goal.returns-then-above-clause-value
returns-then-above-clause-value c = search rules
