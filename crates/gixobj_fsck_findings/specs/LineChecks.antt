-- The checks of headers and of lines of actors, which commits and tags have in common (git-fsck, "FSCK MESSAGES").
use Rattle.std.specs.Prelude.{◌≡◌, ◌⊎◌, ◌∷◌, ◌++◌, ℕ, List, Some, None, Ok, Err, length}
use Rattle.gixobj_hash.specs.ByteStrings.{SplitsAt}
use Rattle.gixobj_hash.specs.Bytes.{space}
use Rattle.gixobj_fsck.specs.Actors.{ActorPart, IsAfterLine}
use Rattle.gixobj_fsck.specs.Headers.{HeaderPart}
use Rattle.gixobj_fsck_messages.specs.declared.message.Message.{Message}
use Rattle.gixobj_fsck_messages.specs.declared.message.Message.TheVariants as message
use Rattle.gixobj_fsck_messages.specs.declared.severity.Severity.{Severity}
use Rattle.gixobj_fsck_findings.specs.Checks.{Check, listed, offset_of, rest_after}

-- the first occurrence of the byte is at this offset
abbrev pub IsFirstByteAt : ℕ → List ℕ → ℕ → Type 0
IsFirstByteAt byte input offset = (prefix rest : List ℕ) × SplitsAt byte input prefix rest × (offset ≡ length prefix)

-- the offset of a header's fault: of the first zero byte, or of the end where the header's end was expected
abbrev pub IsHeaderOffset : List ℕ → Message → ℕ → Type 0
IsHeaderOffset input fault offset = ((fault ≡ message.NulInHeader) × IsFirstByteAt 0 input offset)
    ⊎ ((fault ≡ message.UnterminatedHeader) × (offset ≡ length input))

-- the header is sound, and the input as before is checked further; or it has a fault, and the check ends
abbrev pub HeaderCheck : (Message → Severity) → Check
HeaderCheck severity input before after outcome =
    (HeaderPart input (Ok input) × (after ≡ before) × (outcome ≡ Some input))
    ⊎ ((fault : Message) × (offset : ℕ) × HeaderPart input (Err fault) × IsHeaderOffset input fault offset
    × (after ≡ listed severity fault offset before) × (outcome ≡ None))

-- an actor of a line at this offset: the next line is checked after a sound actor, and after a fault that doesn't
-- count as an error
abbrev pub ActorCheck : (Message → Severity) → ℕ → Check
ActorCheck severity offset actor before after outcome = (rest : List ℕ) × IsAfterLine actor rest
    × (((sound : List ℕ) × ActorPart actor (Ok sound) × (after ≡ before) × (outcome ≡ Some rest))
    ⊎ ((fault : Message) × ActorPart actor (Err fault) × (after ≡ listed severity fault offset before)
    × (outcome ≡ rest_after severity fault rest)))

-- the line of this name with an actor
abbrev pub ActorLineCheck : (Message → Severity) → List ℕ → List ℕ → Check
ActorLineCheck severity object name input before after outcome = (actor : List ℕ) × (input ≡ name ++ space ∷ actor)
    × ActorCheck severity (offset_of object input) actor before after outcome
