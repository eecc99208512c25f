-- The payloads that a signer got, found in the encodings of signed commits and tags (gitformat-signature).
use Rattle.std.specs.Prelude.{◌≡◌, ℕ, List}
use Rattle.gixobj_encode.specs.FieldWriting.{value_lines}
use Rattle.gixobj_hash.specs.HeaderFormat.{value_of_lines}
use Rattle.gixobj_hash.specs.declared.hash.kind.Kind.{Kind}
use Rattle.gixobj_signature_reports.specs.Calls.{Answer, CallView}
use Rattle.gixobj_signature.specs.Plans.{CarriesOut}
use Rattle.gixobj_signature.specs.Signing.{sign_options_view, sign_plan, signature}
use Rattle.gixobj_signature.specs.declared.signature.sign.Options.{Options}
use Rattle.gixobj_codec.specs.OneMarker.{HasOneMarker}
use Rattle.gixobj_parse.specs.Markers.{HasNoMarker}
use Rattle.gixobj_parse.specs.declared.signature.Format.{Format}
use Rattle.gixobj_grammar.specs.TagSignatures as tags
use Rattle.gixobj_grammar.specs.CommitSignatures as commits

-- the calls that were made carried out the plan for this payload, and led to a signature
abbrev pub WasSigned : {S : Type 0} → (S → CallView → Answer → S → Type 0) → Options → List ℕ → S → S → Type 0
WasSigned runs options payload old new =
    (bytes : List ℕ) × CarriesOut runs (sign_plan (sign_options_view options) payload) old (signature bytes) new

-- the value to which a header with this value decodes: its line, or its lines with their newlines
abbrev pub decoded_value : List ℕ → List ℕ
decoded_value value = value_of_lines (value_lines value).0 (value_lines value).1

-- in these bytes the signature is found that the calls led to, with the payload that was signed
abbrev pub FindsSigned : {S : Type 0} → (S → CallView → Answer → S → Type 0) → Options → Kind → List ℕ → S → S → Type 0
FindsSigned runs options kind content old new = (bytes payload : List ℕ)
    × CarriesOut runs (sign_plan (sign_options_view options) payload) old (signature bytes) new
    × commits.HasCommitSignature kind content (decoded_value bytes) payload

-- each payload that is found in the encoding of a commit was signed by the calls that were made
abbrev pub CommitPayloadIsSigned : {S : Type 0} → (S → CallView → Answer → S → Type 0) → Options → Kind → List ℕ → S → S
    → Type 0
CommitPayloadIsSigned runs options kind content old new = (value payload : List ℕ)
    → commits.HasCommitSignature kind content value payload → WasSigned runs options payload old new

-- the signer returned these bytes; if they begin with their one marker, a signature is found in the tag's encoding
abbrev pub FindsTagSignature : {S : Type 0} → (S → CallView → Answer → S → Type 0) → Options → List ℕ → S → S → Type 0
FindsTagSignature runs options content old new = (bytes payload : List ℕ)
    × CarriesOut runs (sign_plan (sign_options_view options) payload) old (signature bytes) new
    × (HasOneMarker bytes → ¬ HasNoMarker content)

-- the signer returned these bytes for the payload; if they begin with their one marker, the tag's encoding has this
-- payload and signature
pub record TagPayloadIsSigned {S : Type 0} (runs : S → CallView → Answer → S → Type 0) (options : Options)
    (content : List ℕ) (old new : S) : Type 0 where
  pub payload : List ℕ
  pub bytes : List ℕ
  pub called : CarriesOut runs (sign_plan (sign_options_view options) payload) old (signature bytes) new
  pub found : HasOneMarker bytes → (found_signature signed : List ℕ) (format : Format)
      → tags.HasTagSignature content found_signature signed format → (signed ≡ payload) × (found_signature ≡ bytes)
