-- The bytes are the old bytes and the lines of the replies before the current one.
use Rattle.std.proofs.Common.{◌≡◌, ◌++◌, take}
use Rattle.std.specs.List.{flat_map}
use Rattle.gixobj_cli_edit.specs.Reporting.{edit_reply_line}
use Rattle.gixobj_cli_edit.proofs.reporting.push_edit_replies.Given as goal

abbrev pub invariant-loop-reply : goal.invariant-loop-reply
invariant-loop-reply g l = l.bytes.items ≡ l.fn.bytes.items ++ flat_map edit_reply_line (take l.reply-index l.replies)
