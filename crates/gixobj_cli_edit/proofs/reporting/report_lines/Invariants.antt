-- The bytes are the lines of the replies before the current one.
use Rattle.std.proofs.Common.{◌≡◌, take}
use Rattle.std.specs.List.{flat_map}
use Rattle.gixobj_cli_edit.specs.Reporting.{reply_lines}
use Rattle.gixobj_cli_edit.proofs.reporting.report_lines.Given as goal

abbrev pub invariant-loop-reply : goal.invariant-loop-reply
invariant-loop-reply g l = l.bytes.items ≡ flat_map reply_lines (take l.reply-index l.replies)
