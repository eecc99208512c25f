-- The value is its last byte and the bytes before it.
use Rattle.std.proofs.Common.{arith}
use Rattle.gixobj_encode.proofs.FoldedSizes.{folded_len_split}
use Rattle.gixobj_encode.proofs.encode.len_folded_in.Goals as goal

pub returns-in-len1-up : goal.returns-in-len1-up
returns-in-len1-up c = omega (arith, folded_len_split c.args.value.now c.in-len1-up.len_at_least, c.count_newlines.ensures.count, c.from.ensures)
