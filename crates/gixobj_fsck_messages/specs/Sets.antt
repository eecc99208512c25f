-- Sets of messages.
use Rattle.std.specs.Prelude.{◌≡◌, ◌≢◌, ◌⊎◌, Option, Some, None, List, Contains, ◌↔◌, Bool, IsTrue, ◌≤◌}
use Rattle.std.specs.Int.{bit_at}
use Rattle.gixobj_fsck_messages.specs.Messages.{message_number}
use Rattle.gixobj_fsck_messages.specs.Severities.{counts_as_error, rank, severity_of}
use Rattle.gixobj_fsck_messages.specs.declared.message.Message.{Message}
use Rattle.gixobj_fsck_messages.specs.declared.set.Messages.{Messages}
use Rattle.gixobj_fsck_messages.specs.declared.severity.Severity.{Severity}

-- the message is in the set
abbrev pub HasMessage : Messages → Message → Type 0
HasMessage messages it = bit_at messages.bits (message_number it) ≡ 1

-- no message is in the set
abbrev pub HasNoMessage : Messages → Type 0
HasNoMessage messages = (it : Message) → ¬ HasMessage messages it

-- the set has exactly the messages of the list
abbrev pub AreMessages : Messages → List Message → Type 0
AreMessages messages list = (it : Message) → HasMessage messages it ↔ Contains list it

-- the set after has the messages of the set before and this one, and no others
abbrev pub Inserts : Messages → Message → Messages → Type 0
Inserts before message after = (it : Message) → HasMessage after it ↔ (HasMessage before it ⊎ (it ≡ message))

-- the message is the one with the smallest number in the set
pub record IsFirstMessage (messages : Messages) (message : Message) : Type 0 where
  pub here : HasMessage messages message
  pub first : (it : Message) → HasMessage messages it → message_number message ≤ message_number it

-- the set after has the messages of the set before but this one
abbrev pub Removes : Messages → Message → Messages → Type 0
Removes before message after = (it : Message) → HasMessage after it ↔ (HasMessage before it × (it ≢ message))

-- a message in the set has this severity, and none has a worse one; there is none in an empty set
abbrev pub IsWorst : Bool → Messages → Option Severity → Type 0
IsWorst strict messages None = HasNoMessage messages
IsWorst strict messages (Some worst) =
    ((it : Message) × HasMessage messages it × (severity_of strict it ≡ worst))
    × ((it : Message) → HasMessage messages it → rank (severity_of strict it) ≤ rank worst)

-- a message in the set counts as an error
abbrev pub HasError : Bool → Messages → Type 0
HasError strict messages = (it : Message) × HasMessage messages it × IsTrue (counts_as_error (severity_of strict it))
