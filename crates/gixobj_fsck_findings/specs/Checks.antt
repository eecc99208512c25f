-- The checks of the parts of an object, one after the other, by the severity of each message (git-fsck, "FSCK
-- MESSAGES"; git-config, `fsck.<msg-id>`). A check goes from the input of a part and the findings before it to the
-- findings after it, and to the rest of the input; without a rest the check of the object ends.
use Rattle.std.specs.Prelude.{◌≡◌, ◌-◌, ◌⊎◌, ◌∷◌, ◌++◌, [], ℕ, Bool, List, Option, Some, None, Result, Ok, Err}
use Rattle.std.specs.Prelude.{if◌then◌else◌, length, map}
use Rattle.std.specs.Borrow.{Bor}
use Rattle.gixobj_fsck_messages.specs.Severities.{counts_as_error, is_reported, severity_of}
use Rattle.gixobj_fsck_messages.specs.declared.finding.Finding.{Finding}
use Rattle.gixobj_fsck_messages.specs.declared.message.Message.{Message}
use Rattle.gixobj_fsck_messages.specs.declared.severity.Severity.{Severity}

-- a check: the input, the findings before and after it, and the rest of the input
abbrev pub Check : Type 1
Check = List ℕ → List Finding → List Finding → Option (List ℕ) → Type 0

-- the offset in the object at which a rest of it begins
abbrev pub offset_of : List ℕ → List ℕ → ℕ
offset_of object rest = length object - length rest

-- the message at this offset
abbrev pub finding_of : Message → ℕ → Finding
finding_of it offset = record { message = it; offset = offset }

-- the findings, and then this message at this offset; a message that is ignored isn't listed
abbrev pub listed : (Message → Severity) → Message → ℕ → List Finding → List Finding
listed severity it offset before =
    if is_reported (severity it) then before ++ finding_of it offset ∷ [] else before

-- the rest after a message, at which the check ends if the message counts as an error
abbrev pub rest_after : (Message → Severity) → Message → List ℕ → Option (List ℕ)
rest_after severity it rest = if counts_as_error (severity it) then None else Some rest

-- the first check, and then the second in the rest; without a rest the first alone
abbrev pub AndThen : Check → Check → Check
AndThen First Second input before after outcome = (First input before after None × (outcome ≡ None))
    ⊎ ((between : List ℕ) × (middle : List Finding) × First input before middle (Some between)
    × Second between middle after outcome)

-- the part comes, or its fault, at which the check ends whatever the severity
abbrev pub EndsAtFault : (Message → Severity) → List ℕ → (List ℕ → Result (List ℕ) Message → Type 0) → Check
EndsAtFault severity object Part input before after outcome =
    ((rest : List ℕ) × Part input (Ok rest) × (after ≡ before) × (outcome ≡ Some rest))
    ⊎ ((fault : Message) × Part input (Err fault) × (after ≡ listed severity fault (offset_of object input) before)
    × (outcome ≡ None))

-- a check has at most one result
abbrev pub IsDeterministicCheck : Check → Type 0
IsDeterministicCheck Part = (input : List ℕ) (before one other : List Finding) (x y : Option (List ℕ))
    → Part input before one x → Part input before other y → (one ≡ other) × (x ≡ y)

-- each message has the severity of git's documentation, in a strict check or not
abbrev pub HaveDocumentedSeverities : Bool → (Message → Severity) → Type 0
HaveDocumentedSeverities strict severity = (it : Message) → severity it ≡ severity_of strict it

-- the messages of the findings
abbrev pub messages_of : List Finding → List Message
messages_of findings = map (λ (it : Finding). it.message) findings

-- the rest that a call returned
abbrev pub rest_of : Option (Bor (List ℕ)) → Option (List ℕ)
rest_of None = None
rest_of (Some rest) = Some rest.now
