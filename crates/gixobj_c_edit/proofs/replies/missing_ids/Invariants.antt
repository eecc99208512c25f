-- The ids of the replies so far.
use Rattle.std.proofs.Common.{◌≡◌, take}
use Rattle.gixobj_c_edit.specs.Replies.{missing_ids}
use Rattle.gixobj_store_keep.specs.Memory.{memory_objects}
use Rattle.gixobj_c_edit.proofs.replies.missing_ids.Given as goal

abbrev pub invariant-loop-reply : goal.invariant-loop-reply
invariant-loop-reply l = l.ids.items ≡ missing_ids (memory_objects l.fn.lossy) (take l.reply-index l.replies)
