-- Walks over the lines of a report, one line after the other.
use Rattle.std.specs.Prelude.{ℕ, zero, suc, List, [], ◌∷◌, Option, Some, None, if◌then◌else◌, codes, ◌==◌, ◌≡◌}
use Rattle.std.specs.Borrow.{Bor}
use Rattle.std.specs.List.{cons_option, filter_map}
use Rattle.std.specs.Option.{option_map}
use Rattle.bstr.specs.Owned.{bstring_bytes}
use Rattle.gixobj_hash.specs.Bytes.{space}
use Rattle.gixobj_signature_reports.specs.Fields.{after_prefix}
use Rattle.gixobj_signature_reports.specs.GpgReports.{Verdict, status_of, verdict}
use Rattle.gixobj_signature_reports.specs.declared.report.Status.{Status}
use Rattle.gixobj_signature_reports.specs.declared.report.Status.TheVariants as status
use Rattle.gixobj_signature_reports.specs.declared.report.gpg.LineReport.{LineReport}
use Rattle.gixobj_signature_reports.specs.declared.report.gpg.Statuses.{Statuses}
use Rattle.gixobj_signature_reports.specs.declared.report.gpg.Statuses.TheVariants as statuses

-- a status and the bytes after its keyword, as lists
abbrev pub status_view : Status × Bor (List ℕ) → Status × List ℕ
status_view it = (it.0, it.1.now)

-- the status, the key and the signer, as lists
abbrev pub reported_view : LineReport → Verdict
reported_view it = record {
  status = it.status;
  key = option_map bstring_bytes it.key;
  signer = option_map bstring_bytes it.signer;
}

-- the status of a status line, or none without one
abbrev pub status_from : Option (List ℕ) → Option (Status × List ℕ)
status_from (Some seen) = status_of seen
status_from None = None

-- the status that a line reports, or none if it isn't a status line
abbrev pub line_status : List ℕ → Option (Status × List ℕ)
line_status line = status_from (after_prefix (codes "[GNUPG:] ") line)

-- the statuses that all lines report
abbrev pub statuses_in : List (List ℕ) → List (Status × List ℕ)
statuses_in lines = filter_map line_status lines

-- what the statuses so far and those of the remaining lines report together
abbrev pub verdict_of : Statuses → List (Status × List ℕ) → Verdict
verdict_of statuses.None remaining = verdict remaining
verdict_of (statuses.One one rest) remaining = verdict ((one, rest.now) ∷ remaining)
verdict_of statuses.Several remaining = record { status = status.Error; key = None; signer = None }

-- the statuses after one more line, which reports this status or none
abbrev pub HasOneMore : Statuses → Option (Status × List ℕ) → Statuses → Type 0
HasOneMore before said after = (remaining : List (Status × List ℕ)) → verdict_of after remaining ≡ verdict_of before
    (cons_option said remaining)

-- the bytes after this prefix of a status line, or none without one
abbrev pub after_status_prefix : List ℕ → Option (List ℕ) → Option (List ℕ)
after_status_prefix bytes (Some seen) = after_prefix bytes seen
after_status_prefix bytes None = None

-- the bytes after this prefix of a line that is a status line, or none
abbrev pub status_after : List ℕ → List ℕ → Option (List ℕ)
status_after bytes line = after_status_prefix bytes (after_prefix (codes "[GNUPG:] ") line)

-- the bytes after this prefix in each status line that has it
abbrev pub reported_after : List ℕ → List (List ℕ) → List (List ℕ)
reported_after bytes lines = filter_map (status_after bytes) lines

-- the bytes after the first space, or none without one
abbrev pub after_some_space : List ℕ → Option (List ℕ)
after_some_space [] = None
after_some_space (byte ∷ rest) = if byte == space then Some rest else after_some_space rest

-- the result of `next` for an item, or none without an item
abbrev pub if_some : {X Y : Type 0} → (X → Option Y) → Option X → Option Y
if_some next (Some x) = next x
if_some next None = None

-- the bytes after this number of spaces, or none if there are fewer
abbrev pub after_spaces : ℕ → List ℕ → Option (List ℕ)
after_spaces zero line = Some line
after_spaces (suc number) line = if_some (after_spaces number) (after_some_space line)
