use Rattle.std.proofs.Common.{rules}
use Rattle.gixobj_text.proofs.commit.message.body.filters.Filter.keeps.Goals as goal

pub returns-then-is_signed_off_by : goal.returns-then-is_signed_off_by
returns-then-is_signed_off_by c = search rules
