use Rattle.std.proofs.Common.{◌<◌}
use Rattle.gixobj_fsck_messages.specs.Messages.{NamesMessage, message_number}
use Rattle.gixobj_fsck_messages.specs.declared.message.Message.{Message}
use Rattle.gixobj_fsck_messages.proofs.message.Message.from_name.Given as goal

-- no message with a smaller number has this name
abbrev pub invariant-loop-number : goal.invariant-loop-number
invariant-loop-number l = (it : Message) → message_number it < l.number → ¬ NamesMessage l.name it
