-- The failure is that of the edits that remain.
use Rattle.std.proofs.Common.{◌≡◌, drop}
use Rattle.gixobj_c_edit.specs.Replies.{edits_failure}
use Rattle.gixobj_c_edit.proofs.replies.edits_failure.Given as goal

abbrev pub invariant-loop-reply : goal.invariant-loop-reply
invariant-loop-reply l = edits_failure l.replies ≡ edits_failure (drop l.reply-index l.replies)
