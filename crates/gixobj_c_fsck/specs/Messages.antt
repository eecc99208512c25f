-- Results of the calls about messages by their numbers.
use Rattle.std.specs.Prelude.{◌≡◌, ◌≤◌, ◌⊎◌, ℕ, Bool, List, Option, Some, None}
use Rattle.gixobj_c_codes.specs.Buffers.{WritesBytes}
use Rattle.gixobj_c_codes.specs.Codes.{done, unknown_code}
use Rattle.gixobj_c_fsck.specs.Codes.{severity_code}
use Rattle.gixobj_fsck_messages.specs.Messages.{message_count, message_name, message_number}
use Rattle.gixobj_fsck_messages.specs.Severities.{severity_of}
use Rattle.gixobj_fsck_messages.specs.declared.message.Message.{Message}

-- the name of the message with this number is written, or there is no such message, and nothing is written
abbrev pub IsNameCall : ℕ → List ℕ → List ℕ → ℕ → ℕ → ℕ → Type 0
IsNameCall number before after len_before len status =
    ((it : Message) × (message_number it ≡ number) × WritesBytes (message_name it) before after len status)
    ⊎ ((message_count ≤ number) × (status ≡ unknown_code) × (after ≡ before) × (len ≡ len_before))

-- the severity of the message with this number is written, or there is no such message, and nothing is written
abbrev pub IsSeverityCall : ℕ → Option Bool → ℕ → ℕ → ℕ → Type 0
IsSeverityCall number (Some strict) before after status =
    ((it : Message) × (message_number it ≡ number) × (status ≡ done)
    × (after ≡ severity_code (Some (severity_of strict it))))
    ⊎ ((message_count ≤ number) × (status ≡ unknown_code) × (after ≡ before))
IsSeverityCall number None before after status = (status ≡ unknown_code) × (after ≡ before)
