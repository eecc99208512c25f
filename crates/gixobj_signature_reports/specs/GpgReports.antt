-- Reports of OpenPGP and X.509 programs (gnupg, doc/DETAILS, "Format of the --status-fd output").
use Rattle.std.specs.Prelude.{ℕ, false, List, [], ◌∷◌, Option, Some, None, codes, map}
use Rattle.std.specs.List.{filter_map}
use Rattle.std.specs.Option.{option_map}
use Rattle.bstr.specs.Text.{lines_of, without_terminator}
use Rattle.gixobj_parse.specs.declared.signature.Format.{Format}
use Rattle.gixobj_signature_reports.specs.Fields.{after_prefix, after_space, either, field_at, fields_of, first_token}
use Rattle.gixobj_signature_reports.specs.Fields.{last_of, unless_empty}
use Rattle.gixobj_signature_reports.specs.Outcomes.{OutcomeView}
use Rattle.gixobj_signature_reports.specs.Trust.{or_undefined, trust_of}
use Rattle.gixobj_signature_reports.specs.declared.report.Status.{Status}
use Rattle.gixobj_signature_reports.specs.declared.report.Status.TheVariants as status
use Rattle.gixobj_signature_reports.specs.declared.report.TrustLevel.{TrustLevel}
use Rattle.gixobj_signature_reports.specs.declared.report.TrustLevel.TheVariants as trust

-- the status lines of machine-readable output, without their prefix `[GNUPG:] `
abbrev pub status_lines : List ℕ → List (List ℕ)
status_lines raw = filter_map (λ line. after_prefix (codes "[GNUPG:] ") line) (map without_terminator (lines_of raw))

-- a status, and the bytes after its keyword
abbrev pub with_status : Status → List ℕ → Status × List ℕ
with_status status rest = (status, rest)

-- the status of a line with the keyword `ERRSIG`, `EXPSIG` or `EXPKEYSIG`, or none
abbrev pub error_status_of : List ℕ → Option (Status × List ℕ)
error_status_of line =
    either (option_map (with_status status.Error) (after_prefix (codes "ERRSIG ") line))
    (either (option_map (with_status status.Expired) (after_prefix (codes "EXPSIG ") line))
    (option_map (with_status status.ExpiredKey) (after_prefix (codes "EXPKEYSIG ") line)))

-- the status that a line reports by its keyword, and the bytes after it, or none
abbrev pub status_of : List ℕ → Option (Status × List ℕ)
status_of line =
    either (option_map (with_status status.Good) (after_prefix (codes "GOODSIG ") line))
    (either (option_map (with_status status.Bad) (after_prefix (codes "BADSIG ") line))
    (either (error_status_of line)
    (option_map (with_status status.RevokedKey) (after_prefix (codes "REVKEYSIG ") line))))

-- the status, the key and the signer that status lines report
pub record Verdict : Type 0 where
  pub status : Status
  pub key : Option (List ℕ)
  pub signer : Option (List ℕ)

-- the key and the signer
abbrev pub reported_names : Verdict → Option (List ℕ) × Option (List ℕ)
reported_names it = (it.key, it.signer)

-- what all lines that report a status report together: without one it is unknown; a single one has the key as its first
-- token and the signer as its rest; several are an error, so that a second signature can't hide a first
abbrev pub verdict : List (Status × List ℕ) → Verdict
verdict [] = record { status = status.Unknown; key = None; signer = None }
verdict (one ∷ []) = record {
  status = one.0;
  key = unless_empty (first_token one.1);
  signer = unless_empty (after_space one.1);
}
verdict (one ∷ next ∷ more) = record { status = status.Error; key = None; signer = None }

-- the trust that the first token names, or undefined
abbrev pub reported_trust : Option (List ℕ) → TrustLevel
reported_trust (Some rest) = or_undefined (trust_of (first_token rest))
reported_trust None = trust.Undefined

-- the trust that the last line with `TRUST_` reports
abbrev pub trust_in : List (List ℕ) → TrustLevel
trust_in lines = reported_trust (last_of (filter_map (λ line. after_prefix (codes "TRUST_") line) lines))

-- the fields of the bytes, or none without them
abbrev pub reported_fields : Option (List ℕ) → List (List ℕ)
reported_fields (Some rest) = fields_of rest
reported_fields None = []

-- the fields of the last line with the keyword `VALIDSIG`
abbrev pub valid_fields : List (List ℕ) → List (List ℕ)
valid_fields lines = reported_fields (last_of (filter_map (λ line. after_prefix (codes "VALIDSIG ") line) lines))

-- the outcome that human-readable output and machine-readable output report
abbrev pub gpg_report : Format → List ℕ → List ℕ → OutcomeView
gpg_report format output raw =
    let lines = status_lines raw in
    let said = verdict (filter_map status_of lines) in
    record {
      format = format;
      status = said.status;
      trust_level = trust_in lines;
      signer = said.signer;
      key = said.key;
      fingerprint = field_at 0 (valid_fields lines);
      primary_key_fingerprint = field_at 9 (valid_fields lines);
      output = output;
      raw_output = raw;
      valid = false;
    }
