-- The encoding of a signed commit; and what an accepted signature implies: the bytes that it is of, and the answers of
-- programs about it. The truth of these answers is no part of this.
use Rattle.std.specs.Prelude.{◌≡◌, ◌⊎◌, ⊤, ℕ, true, false, List, [], ◌∷◌, ◌++◌, Option, Some, None, Result, Ok, Err}
use Rattle.std.specs.Prelude.{if◌then◌else◌, codes, nat_eq}
use Rattle.std.specs.List.{filter_map, starts_with}
use Rattle.std.specs.Cow.{cow_slice_items}
use Rattle.std.specs.declared.alloc.Global.{Global}
use Rattle.std.specs.declared.borrow.CowSlice.{CowSlice}
use Rattle.gix_object.specs.Commit.{CommitLines, DecodesToCommit}
use Rattle.gix_object.specs.CommitSigning.{IsSignedCommit, IsCommitSigningError, IsCommitEncodingError}
use Rattle.gix_object.specs.CommitSigning.{payload_of_commit, with_signature}
use Rattle.gix_object.specs.CommitViews.{owned_commit_lines}
use Rattle.gix_object.specs.CommitWriting.{encode_commit}
use Rattle.gix_object.specs.CommitSignatures as commits
use Rattle.gix_object.specs.GpgReports.{gpg_report, status_of, status_lines, trust_in}
use Rattle.gix_object.specs.Hash.{id_kind}
use Rattle.gix_object.specs.Markers.{HasNoMarker}
use Rattle.gix_object.specs.Outcomes.{OutcomeView, is_trusted, evaluated}
use Rattle.gix_object.specs.Plans.{CarriesOut}
use Rattle.gix_object.specs.ProgramCalls.{Answer, CallView, OutputView, ran}
use Rattle.gix_object.specs.ReceivedSignatures.{SignsCommit, SignsTag}
use Rattle.gix_object.specs.SignedBytes.{signed_bytes}
use Rattle.gix_object.specs.Signing as signing
use Rattle.gix_object.specs.Signing.{sign_plan}
use Rattle.gix_object.specs.SshReports.{ssh_report}
use Rattle.gix_object.specs.TagSignatures as tags
use Rattle.gix_object.specs.TagFormat.{DecodesToTag, TagLines}
use Rattle.gix_object.specs.Verifiers.{VerifyOptionsView, ProgramView, SshView, by_open_pgp, by_ssh, by_x509}
use Rattle.gix_object.specs.Verifying.{IsOutcomeOf, IsFormatOf, accepts, human, principals_in, verify_plan}
use Rattle.gix_object.specs.VerifyingCalls.{open_pgp_call, principal_call, principals_call, x509_call}
use Rattle.gix_object.specs.commit.commit.Commit.{Commit}
use Rattle.gix_object.specs.fields.encode.Error as encode
use Rattle.gix_object.specs.hash.decode.Error as decode
use Rattle.gix_object.specs.hash.hash.kind.Kind as hash
use Rattle.gix_object.specs.hash.kind.Kind.{Kind}
use Rattle.gix_object.specs.hash.kind.Kind.TheVariants as kind
use Rattle.gix_object.specs.report.report.Outcome.{Outcome}
use Rattle.gix_object.specs.report.report.Status.TheVariants as status
use Rattle.gix_object.specs.report.report.TrustLevel.TheVariants as trust
use Rattle.gix_object.specs.signature.signature.sign.Error as sign
use Rattle.gix_object.specs.signature.signature.sign.Error.TheVariants.{Encode}
use Rattle.gix_object.specs.signature.signature.sign.Options.{Options}
use Rattle.gix_object.specs.signature.signature.signed_data.SignedData.{SignedData}
use Rattle.gix_object.specs.signature.signature.verify.Error.{Error}
use Rattle.gix_object.specs.formats.signature.Format.{Format}
use Rattle.gix_object.specs.formats.signature.Format.TheVariants as format
use Rattle.gixobj_examples_objects.specs.declared.releases.AuditError.{AuditError}
use Rattle.gixobj_examples_objects.specs.declared.releases.AuditError.TheVariants as audit

-- ---- signed commits

-- a signer returned a signature for the encoding of the commit without signatures, and this is the encoding with it
abbrev pub IsSignedEncoding : {S : Type 0} → (S → CallView → Answer → S → Type 0) → signing.SignOptionsView → Commit → S
    → List ℕ → S → Type 0
IsSignedEncoding runs it commit old content new =
    let kind = id_kind commit.tree in
    let lines = owned_commit_lines commit in
    (bytes : List ℕ) × CarriesOut runs (sign_plan it (payload_of_commit kind lines)) old (signing.signature bytes) new
    × (content ≡ encode_commit (with_signature kind bytes lines))

-- the errors of a signed encoding: the commit isn't signed, or the signed commit isn't encoded
abbrev pub IsSignedEncodingError : {S : Type 0} → (S → CallView → Answer → S → Type 0) → Options → Commit → S → S
    → sign.Error → Type 0
IsSignedEncodingError runs options commit old new error =
    IsCommitSigningError runs options commit old new error
    ⊎ ((signed : Commit) × (cause : encode.Error) × IsSignedCommit runs options commit old new signed
    × (error ≡ Encode cause) × IsCommitEncodingError signed (encode_commit (owned_commit_lines signed)) cause)

-- ---- signed bytes of an object

-- an object has this signature, which signs precisely these of its bytes: of a commit all but those of the first
-- signature header, of a tag all before the last marker at the start of a line
abbrev pub IsObjectSignature : Kind → hash.Kind → List ℕ → List ℕ → List ℕ → Type 0
IsObjectSignature kind.Commit ids bytes signature signed = commits.HasCommitSignature ids bytes signature signed
IsObjectSignature kind.Tag ids bytes signature signed = (format : Format)
    × tags.HasTagSignature bytes signature signed format
IsObjectSignature other ids bytes signature signed = ⊥

-- the signed bytes say what the object says. Of a commit they are the same commit without its first signature header:
-- it has the same tree, parents, actors and message. Of a tag they have the same target, name and tagger. Whoever
-- decodes the object therefore has decoded what was signed
abbrev pub SignsObject : Kind → hash.Kind → List ℕ → List ℕ → List ℕ → Type 0
SignsObject kind.Commit ids bytes signature signed = (commit : CommitLines) → DecodesToCommit ids bytes commit
    → SignsCommit ids commit signature signed
SignsObject kind.Tag ids bytes signature signed = (tag : TagLines) → DecodesToTag ids bytes tag
    → SignsTag ids tag signature signed
SignsObject other ids bytes signature signed = ⊥

-- an object has no signature
abbrev pub IsUnsigned : Kind → hash.Kind → List ℕ → Type 0
IsUnsigned kind.Commit ids bytes = commits.HasNoSignature ids bytes
IsUnsigned kind.Tag ids bytes = HasNoMarker bytes
IsUnsigned other ids bytes = ⊥

-- the result of searching an object's signature: the signature and what it signs, or none
abbrev pub FindsSignature : Kind → hash.Kind → List ℕ → Option (CowSlice ℕ Global × SignedData) → Type 0
FindsSignature kind ids bytes (Some it) = IsObjectSignature kind ids bytes (cow_slice_items it.0) (signed_bytes it.1)
FindsSignature kind ids bytes None = IsUnsigned kind ids bytes

-- the errors that leave it unknown if an object has a signature
abbrev pub IsUnreadable : Kind → hash.Kind → List ℕ → decode.Error → Type 0
IsUnreadable kind.Commit ids bytes cause = commits.IsCommitSignatureError ids bytes cause
IsUnreadable other ids bytes cause = ⊥

-- an object of this kind is neither a commit nor a tag
abbrev pub IsNoRelease : Kind → Type 0
IsNoRelease kind.Commit = ⊥
IsNoRelease kind.Tag = ⊥
IsNoRelease other = ⊤

-- the errors of searching an object's signature
abbrev pub IsSignatureError : Kind → hash.Kind → List ℕ → AuditError → Type 0
IsSignatureError kind ids bytes audit.NoRelease = IsNoRelease kind
IsSignatureError kind ids bytes (audit.Read cause) = IsUnreadable kind ids bytes cause
IsSignatureError kind ids bytes (audit.Verify cause) = ⊥

-- ---- calls and answers

-- the result of verifying a signature of these bytes, by the format of its marker
abbrev pub IsOutcomeOfVerifying : {S : Type 0} → (S → CallView → Answer → S → Type 0) → VerifyOptionsView → List ℕ
    → List ℕ → S → Result Outcome Error → S → Type 0
IsOutcomeOfVerifying runs it signature signed old result new =
    (format : Option Format) × IsFormatOf signature format
    × IsOutcomeOf runs (verify_plan it signature signed format) old result new

-- one call was made, and the program succeeded. Exactly one line of its report has a status, which is good. The
-- reported trust is at least the required minimum, and the outcome is that of the report
pub record ReportsGood {S : Type 0} (runs : S → CallView → Answer → S → Type 0) (format : Format) (by : ProgramView)
    (call : CallView) (old : S) (outcome : OutcomeView) (new : S) : Type 0 where
  pub yielded : OutputView
  pub requested : runs old call (ran yielded) new
  pub succeeded : yielded.success ≡ true
  pub rest : List ℕ
  pub good : filter_map status_of (status_lines yielded.stdout) ≡ (status.Good, rest) ∷ []
  pub trusted : is_trusted by.minimum (trust_in (status_lines yielded.stdout)) ≡ true
  pub reported : outcome ≡ evaluated yielded.success by.minimum (gpg_report format yielded.stderr yielded.stdout)

-- a call for each of these principals was made, in order, and accepted none of them
abbrev pub TriesInVain : {S : Type 0} → (S → CallView → Answer → S → Type 0) → ProgramView → SshView → List ℕ → List ℕ
    → List (List ℕ) → S → S → Type 0
TriesInVain runs by ssh signature signed [] before after = after ≡ before
TriesInVain {S} runs by ssh signature signed (principal ∷ principals) before after =
    (seen : OutputView) × (state : S)
    × runs before (principal_call by ssh signature signed principal) (ran seen) state
    × (accepts seen ≡ false) × TriesInVain runs by ssh signature signed principals state after

-- the first call named principals. A call for each was made, in order, and the last of them was for this one: it
-- succeeded, and its output begins with the report of a good signature. The principal is the signer if that report is
-- on the standard output; else there is no signer, and no more principals were named
pub record AcceptsPrincipal {S : Type 0} (runs : S → CallView → Answer → S → Type 0) (by : ProgramView) (ssh : SshView)
    (signature signed : List ℕ) (old : S) (outcome : OutcomeView) (new : S) : Type 0 where
  pub named : OutputView
  pub first : S
  pub requested_names : runs old (principals_call by ssh signature) (ran named) first
  pub is_named : named.success ≡ true
  pub before : List (List ℕ)
  pub principal : List ℕ
  pub following : List (List ℕ)
  pub all : principals_in named.stdout ≡ before ++ principal ∷ following
  pub second : S
  pub in_vain : TriesInVain runs by ssh signature signed before first second
  pub yielded : OutputView
  pub requested : runs second (principal_call by ssh signature signed principal) (ran yielded) new
  pub succeeded : yielded.success ≡ true
  pub good : starts_with nat_eq (human yielded) (codes "Good \"git\" signature") ≡ true
  pub trusted : is_trusted by.minimum trust.Fully ≡ true
  pub reported : outcome ≡ evaluated yielded.success by.minimum
      (ssh_report (human yielded) (if accepts yielded then Some principal else None) trust.Fully)
  pub last : accepts yielded ≡ false → following ≡ []

-- an accepted signature of these bytes: the calls, and their answers
abbrev pub Vouches : {S : Type 0} → (S → CallView → Answer → S → Type 0) → VerifyOptionsView → List ℕ → List ℕ → S
    → OutcomeView → S → Type 0
Vouches runs (by_open_pgp by) signature signed old outcome new =
    ReportsGood runs format.OpenPgp by (open_pgp_call by signature signed) old outcome new
Vouches runs (by_x509 by) signature signed old outcome new =
    ReportsGood runs format.X509 by (x509_call by signature signed) old outcome new
Vouches runs (by_ssh by ssh) signature signed old outcome new =
    AcceptsPrincipal runs by ssh signature signed old outcome new

-- ---- signatures of an object

-- the result of an audit: the outcome for the object's signature; or it has none, and no call was made
abbrev pub IsAudit : {S : Type 0} → (S → CallView → Answer → S → Type 0) → VerifyOptionsView → Kind → hash.Kind
    → List ℕ → S → S → Option Outcome → Type 0
IsAudit runs it kind ids bytes old new (Some outcome) =
    (signature signed : List ℕ) × IsObjectSignature kind ids bytes signature signed
    × IsOutcomeOfVerifying runs it signature signed old (Ok outcome) new
IsAudit runs it kind ids bytes old new None = IsUnsigned kind ids bytes × (new ≡ old)

-- the object's signature is accepted, and the signed bytes say what the object says
abbrev pub IsAccepted : {S : Type 0} → (S → CallView → Answer → S → Type 0) → VerifyOptionsView → Kind → hash.Kind
    → List ℕ → S → OutcomeView → S → Type 0
IsAccepted runs it kind ids bytes old outcome new =
    (signature signed : List ℕ) × IsObjectSignature kind ids bytes signature signed
    × Vouches runs it signature signed old outcome new × SignsObject kind ids bytes signature signed

-- the errors of an audit: no signature is found, and no call was made; or the signature isn't verified
abbrev pub IsAuditError : {S : Type 0} → (S → CallView → Answer → S → Type 0) → VerifyOptionsView → Kind → hash.Kind
    → List ℕ → S → S → AuditError → Type 0
IsAuditError runs it kind ids bytes old new (audit.Verify cause) =
    (signature signed : List ℕ) × IsObjectSignature kind ids bytes signature signed
    × IsOutcomeOfVerifying runs it signature signed old (Err cause) new
IsAuditError runs it kind ids bytes old new other = IsSignatureError kind ids bytes other × (new ≡ old)
