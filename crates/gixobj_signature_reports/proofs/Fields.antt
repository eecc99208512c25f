-- A copy is made only if a line reports a value.
use Rattle.std.specs.List.{filter_map}
use Rattle.std.proofs.Common.{◌≡◌, ◌≢◌, ◌∷◌, ◌∙◌, [], ap, sym, List, ℕ, zero, suc, Option, Some, None, refl}
use Rattle.gixobj_signature_reports.specs.Fields.{after_space, field_at, fields_of, first_token, unless_empty}
use Rattle.gixobj_signature_reports.specs.GpgReports.{Verdict, gpg_report, reported_names, status_of, status_lines, valid_fields, verdict}
use Rattle.gixobj_signature_reports.specs.Outcomes.{copied_strings, no_strings}
use Rattle.gixobj_signature_reports.specs.StatusLines.{after_spaces}
use Rattle.gixobj_signature_reports.specs.declared.report.Status.{Status}
use Rattle.gixobj_parse.specs.declared.signature.Format.{Format}
use Rattle.gixobj_signature_reports.proofs.FieldPositions.{field_at_eq}

nil_of_unless_empty_none : (bytes : List ℕ) → unless_empty bytes ≡ None → bytes ≡ []
nil_of_unless_empty_none [] none = refl
nil_of_unless_empty_none (byte ∷ bytes) none = absurd (cc none)

pub reported_names_of_key : (one : Status) (rest token : List ℕ) → token ≡ first_token rest → token ≢ []
    → reported_names (verdict ((one, rest) ∷ [])) ≢ (None, None)
reported_names_of_key one rest token is some none = some (is ∙ nil_of_unless_empty_none (first_token rest)
    (ap (λ (it : Option (List ℕ) × Option (List ℕ)). it.0) none))

pub reported_names_of_signer : (one : Status) (rest token : List ℕ) → token ≡ after_space rest → token ≢ []
    → reported_names (verdict ((one, rest) ∷ [])) ≢ (None, None)
reported_names_of_signer one rest token is some none = some (is ∙ nil_of_unless_empty_none (after_space rest)
    (ap (λ (it : Option (List ℕ) × Option (List ℕ)). it.1) none))

pub field_at_not_none : (number : ℕ) (line rest token : List ℕ) → Some rest ≡ after_spaces number line → token ≡ first_token rest → token ≢ []
    → field_at number (fields_of line) ≢ None
field_at_not_none number line rest token is first some none =
    some (first ∙ nil_of_unless_empty_none (first_token rest) (sym (field_at_eq number line (Some rest) is) ∙ none))

abbrev at : ℕ → List (Option (List ℕ)) → Option (List ℕ)
at number [] = None
at zero (bytes ∷ encodings) = bytes
at (suc number) (bytes ∷ encodings) = at number encodings

pub copied_strings_of_verdict : (format : Format) (output raw : List ℕ) (said : Verdict) → said ≡ verdict (filter_map status_of (status_lines raw))
    → reported_names said ≢ (None, None) → copied_strings (gpg_report format output raw) ≢ no_strings
copied_strings_of_verdict format output raw said is named bare =
    named (both (ap (λ (it : Verdict). it.key) is ∙ ap (at 0) bare) (ap (λ (it : Verdict). it.signer) is ∙ ap (at 1) bare))
  where
    pair : Option (List ℕ) → Option (List ℕ) → Option (List ℕ) × Option (List ℕ)
    pair one other = (one, other)

    both : {key signer : Option (List ℕ)} → key ≡ None → signer ≡ None → pair key signer ≡ pair None None
    both {key} {signer} one other = ap (λ (it : Option (List ℕ)). pair it signer) one ∙ ap (λ (it : Option (List ℕ)). pair None it) other

pub copied_strings_of_fingerprint : (format : Format) (output raw : List ℕ) (fields : List (List ℕ)) → fields ≡ valid_fields (status_lines raw)
    → field_at 0 fields ≢ None
    → copied_strings (gpg_report format output raw) ≢ no_strings
copied_strings_of_fingerprint format output raw fields is some bare = some (ap (field_at 0) is ∙ ap (at 2) bare)

pub copied_strings_of_primary : (format : Format) (output raw : List ℕ) (fields : List (List ℕ)) → fields ≡ valid_fields (status_lines raw)
    → field_at 9 fields ≢ None
    → copied_strings (gpg_report format output raw) ≢ no_strings
copied_strings_of_primary format output raw fields is some bare = some (ap (field_at 9) is ∙ ap (at 3) bare)
