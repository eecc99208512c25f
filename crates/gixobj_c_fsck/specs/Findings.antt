-- Results of the call that lists git's findings about an object (git-fsck, "FSCK MESSAGES").
use Rattle.std.specs.Prelude.{◌≡◌, ◌<◌, ◌⊎◌, ◌++◌, ℕ, Bool, List, Option, Some, drop, length, map}
use Rattle.gixobj_c_codes.specs.Codes.{buffer_too_short, done, out_of_memory, unknown_code}
use Rattle.gixobj_c_fsck.specs.Codes.{severity_code}
use Rattle.gixobj_c_fsck.specs.declared.findings.FindingParts.{FindingParts}
use Rattle.gixobj_fsck_findings.specs.Checks.{HaveDocumentedSeverities}
use Rattle.gixobj_fsck_messages.specs.Messages.{message_number}
use Rattle.gixobj_fsck_messages.specs.Options.{is_strict_by, severity_by}
use Rattle.gixobj_fsck_messages.specs.Severities.{severity_of}
use Rattle.gixobj_fsck_messages.specs.declared.finding.Finding.{Finding}
use Rattle.gixobj_fsck_messages.specs.declared.options.Options.{Options}
use Rattle.gixobj_fsck_objects.specs.Objects.{AreFindings, MayAllocateFindings}
use Rattle.gixobj_hash.specs.declared.hash.kind.Kind as hash
use Rattle.gixobj_hash.specs.declared.kind.Kind.{Kind}

-- the offset of a finding, and the numbers of its message and of the severity in this check
abbrev pub finding_parts : Bool → Finding → FindingParts
finding_parts strict it = record {
  offset = it.offset;
  message = message_number it.message;
  severity = severity_code (Some (severity_of strict it.message));
}

-- the check is strict or not, and each message has the severity of git's documentation
abbrev pub HasNoOverrides : Bool → Options → Type 0
HasNoOverrides strict options = (is_strict_by options ≡ strict)
    × HaveDocumentedSeverities strict (severity_by options)

-- the number of findings is written, and the findings at the beginning of the array; one that is too short is unchanged
abbrev pub WritesFindings : Bool → List Finding → List FindingParts → List FindingParts → ℕ → ℕ → Type 0
WritesFindings strict findings before after count status = (count ≡ length findings)
    × (((status ≡ done) × (after ≡ map (finding_parts strict) findings ++ drop (length findings) before))
    ⊎ ((status ≡ buffer_too_short) × (length before < length findings) × (after ≡ before)))

-- exactly git's findings are listed, in a check without overrides; or an allocation failed or a number is unknown, and
-- then nothing is written
abbrev pub IsFindingsCall : Option hash.Kind → Option Kind → Option Bool → List ℕ → List FindingParts
    → List FindingParts → ℕ → ℕ → ℕ → Type 0
IsFindingsCall (Some hash) (Some kind) (Some strict) bytes before after count_before count status =
    (options : Options) × HasNoOverrides strict options
    × (((findings : List Finding) × AreFindings options kind hash bytes findings
    × WritesFindings strict findings before after count status)
    ⊎ ((status ≡ out_of_memory) × MayAllocateFindings options kind hash bytes × (after ≡ before)
    × (count ≡ count_before)))
IsFindingsCall _ _ _ bytes before after count_before count status =
    (status ≡ unknown_code) × (after ≡ before) × (count ≡ count_before)
