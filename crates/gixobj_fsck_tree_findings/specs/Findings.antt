-- Lists of findings, which options filter.
use Rattle.std.specs.Prelude.{◌≡◌, ◌⊎◌, ◌++◌, ℕ, Option, Some, None, List, [], ◌∷◌}
use Rattle.std.specs.List.{filter}
use Rattle.gixobj_fsck_messages.specs.Options.{is_reported_by}
use Rattle.gixobj_fsck_messages.specs.declared.finding.Finding.{Finding}
use Rattle.gixobj_fsck_messages.specs.declared.message.Message.{Message}
use Rattle.gixobj_fsck_messages.specs.declared.options.Options.{Options}

-- the finding of a message at an offset
abbrev pub finding_at : Message → ℕ → Finding
finding_at it offset = record { message = it; offset = offset }

-- the finding of a message at the offset that was found, or none
abbrev pub findings_at : Message → Option ℕ → List Finding
findings_at it None = []
findings_at it (Some offset) = finding_at it offset ∷ []

-- the findings that the options report
abbrev pub reported : Options → List Finding → List Finding
reported options findings = filter (λ it. is_reported_by options it.message) findings

-- a finding has this message
abbrev pub HasFinding : Message → List Finding → Type 0
HasFinding it [] = ⊥
HasFinding it (first ∷ findings) = (first.message ≡ it) ⊎ HasFinding it findings

-- one finding for each of these messages that has an offset, in the order of the messages
abbrev pub ListsInOrder : (Message → ℕ → Type 0) → List Message → List Finding → Type 0
ListsInOrder IsAt [] findings = findings ≡ []
ListsInOrder IsAt (it ∷ order) findings =
    (((offset : ℕ) → ¬ IsAt it offset) × ListsInOrder IsAt order findings)
    ⊎ ((offset : ℕ) × (rest : List Finding) × (findings ≡ finding_at it offset ∷ rest) × IsAt it offset
    × ListsInOrder IsAt order rest)

-- the findings after are those before, and those of some list with the property that the options report
abbrev pub AppendsFindings : Options → (List Finding → Type 0) → List Finding → List Finding → Type 0
AppendsFindings options Are before after =
    (more : List Finding) × Are more × (after ≡ before ++ reported options more)
