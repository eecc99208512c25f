-- The last reply is that of the write.
use Rattle.std.proofs.Common.{inr, rules}
use Rattle.gixobj_c_edit.proofs.Emitted.{is_emitted}
use Rattle.gixobj_c_edit.proofs.FollowingFrames.{error_of_frames}
use Rattle.gixobj_c_edit.proofs.edits.new_trees.Goals as goal

pub returns-in-Ok-clause-found : goal.returns-in-Ok-clause-found
returns-in-Ok-clause-found c = let last = c.last_id.ensures in
    is_emitted c.args.hash c.args.replies.now last.0 last.1 _ _ last.2 last.3 c.in_default.ensures c.in-Ok.ensures.found c.in-Ok.ensures.lossless

pub returns-in-Err-clause-error : goal.returns-in-Err-clause-error
returns-in-Err-clause-error c = inr (
  c.in_default.ensures,
  search rules,
  (
    c.in-Err.failure,
    error_of_frames c.args.hash c.args.replies.now c.in-Err.failure (c.requires.encodable c.in_default.ensures) c.in-Err.ensures.error,
    search rules,
  ),
)
