-- Reports of SSH programs (ssh-keygen(1), "-Y verify").
use Rattle.std.specs.Prelude.{ℕ, false, List, [], ◌∷◌, Option, None, if◌then◌else◌, codes, nat_eq}
use Rattle.std.specs.List.{starts_with}
use Rattle.bstr.specs.Text.{lines_of, without_terminator}
use Rattle.gixobj_parse.specs.declared.signature.Format.TheVariants as format
use Rattle.gixobj_signature_reports.specs.Fields.{after_prefix, either}
use Rattle.gixobj_signature_reports.specs.Outcomes.{OutcomeView}
use Rattle.gixobj_signature_reports.specs.declared.report.Status.{Status}
use Rattle.gixobj_signature_reports.specs.declared.report.Status.TheVariants as status
use Rattle.gixobj_signature_reports.specs.declared.report.TrustLevel.{TrustLevel}

-- the bytes after the last occurrence of `bytes`, or none without one
abbrev pub after_last : List ℕ → List ℕ → Option (List ℕ)
after_last bytes [] = None
after_last bytes (byte ∷ rest) = either (after_last bytes rest) (after_prefix bytes (byte ∷ rest))

-- the first line without its line end, or nothing without a line
abbrev pub first_line : List (List ℕ) → List ℕ
first_line [] = []
first_line (line ∷ lines) = without_terminator line

-- good if the output begins with `Good "git" signature`, bad otherwise
abbrev pub ssh_status : List ℕ → Status
ssh_status output =
    if starts_with nat_eq output (codes "Good \"git\" signature") then status.Good else status.Bad

-- the fingerprint of the key, which is also its ID: the bytes after the last ` key ` of the first line
abbrev pub ssh_key : List ℕ → Option (List ℕ)
ssh_key output = after_last (codes " key ") (first_line (lines_of output))

-- the outcome that the output of a program reports, with this signer and this trust
abbrev pub ssh_report : List ℕ → Option (List ℕ) → TrustLevel → OutcomeView
ssh_report output signer trust = record {
  format = format.Ssh;
  status = ssh_status output;
  trust_level = trust;
  signer = signer;
  key = ssh_key output;
  fingerprint = ssh_key output;
  primary_key_fingerprint = None;
  output = output;
  raw_output = output;
  valid = false;
}
