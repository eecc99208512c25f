-- Iterators over the messages of a set.
use Rattle.std.specs.Prelude.{Option, Some, None}
use Rattle.std.specs.Iterator.{Count, at_most}
use Rattle.gixobj_fsck_messages.specs.Sets.{HasNoMessage, IsFirstMessage, Removes}
use Rattle.gixobj_fsck_messages.specs.declared.iter.MessagesIter.{MessagesIter}
use Rattle.gixobj_fsck_messages.specs.declared.message.Message.{Message}

-- the next message is the first of the set, and the others remain; there is none in an empty set, which remains
abbrev pub NextMessage : MessagesIter → Option Message → MessagesIter → Type 0
NextMessage before (Some it) after = IsFirstMessage before.rest it × Removes before.rest it after.rest
NextMessage before None after = HasNoMessage before.rest × HasNoMessage after.rest

-- a bound on the messages to come
abbrev pub remaining_message_count : MessagesIter → Count
remaining_message_count it = at_most it.rest.bits
