-- An actor: what follows `author `, `committer ` or `tagger ` (git-fsck, "FSCK MESSAGES"). The input is all that
-- follows, up to the end of the object.
use Rattle.std.specs.Prelude.{◌≡◌, ◌≢◌, ◌⊎◌, ◌∷◌, ◌++◌, [], ℕ, List, Result, Ok, Err}
use Rattle.gixobj_hash.specs.ByteStrings.{IsByteFree, SplitsAt}
use Rattle.gixobj_hash.specs.Bytes.{greater_than, less_than, newline, space}
use Rattle.gixobj_fsck.specs.Dates.{BeginsWithByte, DateNumber, DateStart, ZonePart}
use Rattle.gixobj_fsck.specs.Spans.{IsSpan}
use Rattle.gixobj_fsck.specs.Steps.{Then}
use Rattle.gixobj_fsck.specs.declared.spans.Class.TheVariants as class
use Rattle.gixobj_fsck_messages.specs.declared.message.Message.{Message}
use Rattle.gixobj_fsck_messages.specs.declared.message.Message.TheVariants as message

-- the name ends in a space
abbrev pub EndsInSpace : List ℕ → Type 0
EndsInSpace name = (before : List ℕ) × (name ≡ before ++ space ∷ [])

-- a name, which ends in a space, and `<` come, or there is a fault
abbrev pub NamePart : List ℕ → Result (List ℕ) Message → Type 0
NamePart input (Ok rest) = (name : List ℕ) × IsSpan class.Name input name (less_than ∷ rest) × EndsInSpace name
NamePart input (Err fault) =
    (BeginsWithByte less_than input × (fault ≡ message.MissingNameBeforeEmail))
    ⊎ ((name rest : List ℕ) × IsSpan class.Name input name (greater_than ∷ rest) × (fault ≡ message.BadName))
    ⊎ ((name rest : List ℕ) × IsSpan class.Name input name rest × (¬ BeginsWithByte less_than rest)
    × (¬ BeginsWithByte greater_than rest) × (fault ≡ message.MissingEmail))
    ⊎ ((name rest : List ℕ) × IsSpan class.Name input name (less_than ∷ rest) × (name ≢ []) × (¬ EndsInSpace name)
    × (fault ≡ message.MissingSpaceBeforeEmail))

-- an email and `>` come, or there is a fault
abbrev pub EmailPart : List ℕ → Result (List ℕ) Message → Type 0
EmailPart input (Ok rest) = (email : List ℕ) × IsSpan class.Name input email (greater_than ∷ rest)
EmailPart input (Err fault) = (email rest : List ℕ) × IsSpan class.Name input email rest
    × (¬ BeginsWithByte greater_than rest) × (fault ≡ message.BadEmail)

-- an actor comes, or its first fault
abbrev pub ActorPart : List ℕ → Result (List ℕ) Message → Type 0
ActorPart = Then NamePart (Then EmailPart (Then DateStart (Then DateNumber ZonePart)))

-- the input after the line; there is none after a line without a newline
abbrev pub IsAfterLine : List ℕ → List ℕ → Type 0
IsAfterLine input rest = ((line : List ℕ) × SplitsAt newline input line rest) ⊎ (IsByteFree newline input × (rest ≡ []))
