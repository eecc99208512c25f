-- The outcome of the verification of a signature, and when it is valid.
use Rattle.std.specs.Prelude.{ℕ, Bool, true, false, List, [], ◌∷◌, Option, None, nat_le, ◌&&◌}
use Rattle.std.specs.Option.{option_map}
use Rattle.bstr.specs.Owned.{bstring_bytes}
use Rattle.gixobj_parse.specs.declared.signature.Format.{Format}
use Rattle.gixobj_signature_reports.specs.Trust.{level}
use Rattle.gixobj_signature_reports.specs.declared.report.Outcome.{Outcome}
use Rattle.gixobj_signature_reports.specs.declared.report.Status.{Status}
use Rattle.gixobj_signature_reports.specs.declared.report.Status.TheVariants as status
use Rattle.gixobj_signature_reports.specs.declared.report.TrustLevel.{TrustLevel}

-- an outcome as contracts see it: lists of bytes
pub record OutcomeView : Type 0 where
  pub format : Format
  pub status : Status
  pub trust_level : TrustLevel
  pub signer : Option (List ℕ)
  pub key : Option (List ℕ)
  pub fingerprint : Option (List ℕ)
  pub primary_key_fingerprint : Option (List ℕ)
  pub output : List ℕ
  pub raw_output : List ℕ
  pub valid : Bool

-- the view of an outcome
abbrev pub outcome_view : Outcome → OutcomeView
outcome_view it = record {
  format = it.format;
  status = it.status;
  trust_level = it.trust_level;
  signer = option_map bstring_bytes it.signer;
  key = option_map bstring_bytes it.key;
  fingerprint = option_map bstring_bytes it.fingerprint;
  primary_key_fingerprint = option_map bstring_bytes it.primary_key_fingerprint;
  output = bstring_bytes it.output;
  raw_output = bstring_bytes it.raw_output;
  valid = it.valid;
}

-- the byte strings that are copied from machine-readable output
abbrev pub copied_strings : OutcomeView → List (Option (List ℕ))
copied_strings it = it.key ∷ it.signer ∷ it.fingerprint ∷ it.primary_key_fingerprint ∷ []

-- four missing byte strings: nothing is copied
abbrev pub no_strings : List (Option (List ℕ))
no_strings = None ∷ None ∷ None ∷ None ∷ []

-- the status is that of a good signature
abbrev pub is_good_status : Status → Bool
is_good_status status.Good = true
is_good_status other = false

-- the trust is at least `minimum`
abbrev pub is_trusted : TrustLevel → TrustLevel → Bool
is_trusted minimum trust = nat_le (level minimum) (level trust)

-- a report is valid if and only if its call succeeded, its status is good, and its trust is at least `minimum`
abbrev pub evaluated : Bool → TrustLevel → OutcomeView → OutcomeView
evaluated success minimum it =
    record it { valid = success && is_good_status it.status && is_trusted minimum it.trust_level }
