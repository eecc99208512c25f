-- The rest is at the end of the commit.
use Rattle.gixobj_c.proofs.Lines.{rest_of_line}
use Rattle.gixobj_c.proofs.commits.gixobj_commit_token.Goals as goal

pub offset_of-requires : goal.offset_of-requires
offset_of-requires c = rest_of_line _ _ _ _ _ _ _ _ c.bytes_from-input.ensures c.in-Ok.ensures.found
