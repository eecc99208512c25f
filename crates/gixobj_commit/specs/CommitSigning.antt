-- Signing of commits (gitformat-signature, "Commit signatures").
use Rattle.std.specs.Prelude.{◌≡◌, ◌⊎◌, ℕ, Bool, not, List, [], ◌∷◌, ◌++◌, filter, nat_eq}
use Rattle.std.specs.Cmp.Lexicographic.{pointwise}
use Rattle.gixobj_commit.specs.CommitOwned.{IsOwnedFormOfCommit, IsIntoOwnedCommitError}
use Rattle.gixobj_commit.specs.CommitViews.{owned_commit_lines}
use Rattle.gixobj_commit.specs.CommitWriting.{IsOwnedCommitError, encode_commit}
use Rattle.gixobj_commit.specs.declared.commit.Commit.{Commit}
use Rattle.gixobj_grammar.specs.CommitSignatures.{signature_field}
use Rattle.gixobj_hash.specs.HeaderFormat.{Header}
use Rattle.gixobj_streams.specs.Writing.{IsEncodingError, RejectsNothing}
use Rattle.gixobj_streams.specs.declared.encode.Error as encode
use Rattle.gixobj_hash.specs.Hash.{id_kind}
use Rattle.gixobj_hash.specs.declared.decode.Error as decode
use Rattle.gixobj_hash.specs.declared.hash.kind.Kind.{Kind}
use Rattle.gixobj_grammar.specs.Commit.{CommitLines}
use Rattle.gixobj_signature_reports.specs.Calls.{Answer, CallView}
use Rattle.gixobj_signature.specs.Plans.{CarriesOut, IsCarriedOut}
use Rattle.gixobj_signature.specs.Signing.{sign_options_view, sign_plan, signature, signer_error}
use Rattle.gixobj_signature.specs.declared.signature.sign.Error.{Error}
use Rattle.gixobj_signature.specs.declared.signature.sign.Error.TheVariants as sign
use Rattle.gixobj_signature.specs.declared.signature.sign.Options.{Options}

-- the header has this name
abbrev pub is_header_named : List ℕ → Header → Bool
is_header_named name header = pointwise nat_eq header.name name

-- the commit without the headers of this name
abbrev pub without_headers : List ℕ → CommitLines → CommitLines
without_headers name commit =
    record commit { extra_headers = filter (λ header. not (is_header_named name header)) commit.extra_headers }

-- the payload that is signed of a commit with ids of this kind: its encoding without the signature headers
abbrev pub payload_of_commit : Kind → CommitLines → List ℕ
payload_of_commit kind commit = encode_commit (without_headers (signature_field kind) commit)

-- the commit with one more header, at the end
abbrev pub with_last_header : List ℕ → List ℕ → CommitLines → CommitLines
with_last_header name value commit =
    record commit { extra_headers = commit.extra_headers ++ (record { name = name; value = value }) ∷ [] }

-- the commit with this signature in its last header, and without any other signature header
abbrev pub with_signature : Kind → List ℕ → CommitLines → CommitLines
with_signature kind bytes commit = with_last_header (signature_field kind) bytes
    (without_headers (signature_field kind) commit)

-- the signer returned a signature of the payload, and the commit got it in a last header with this name
abbrev pub GetsCommitSignature : {S : Type 0} → (S → CallView → Answer → S → Type 0) → Options → List ℕ → List ℕ
    → Commit → S → S → Commit → Type 0
GetsCommitSignature runs options payload field commit old new signed =
    (bytes : List ℕ) × CarriesOut runs (sign_plan (sign_options_view options) payload) old (signature bytes) new
    × (owned_commit_lines signed ≡ with_last_header field bytes (owned_commit_lines commit))

-- the encoder rejects nothing of the commit, the signer returned a signature of its payload, and the signed commit has
-- it
pub record IsSignedCommit {S : Type 0} (runs : S → CallView → Answer → S → Type 0) (options : Options) (commit : Commit)
    (old new : S) (signed : Commit) : Type 0 where
  pub bytes : List ℕ
  pub called : CarriesOut runs
      (sign_plan (sign_options_view options) (payload_of_commit (id_kind commit.tree) (owned_commit_lines commit))) old
      (signature bytes) new
  pub lines : owned_commit_lines signed ≡ with_signature (id_kind commit.tree) bytes (owned_commit_lines commit)
  pub writable : RejectsNothing (IsOwnedCommitError commit)

-- why encoding a commit to these bytes fails
abbrev pub IsCommitEncodingError : Commit → List ℕ → encode.Error → Type 0
IsCommitEncodingError commit content cause = IsEncodingError (IsOwnedCommitError commit) content cause

-- why signing fails: the plan for the payload led to this error, and no value of the commit is rejected. Or the payload
-- can't be encoded, and no call was made
abbrev pub IsCommitSigningError : {S : Type 0} → (S → CallView → Answer → S → Type 0) → Options → Commit → S → S → Error
    → Type 0
IsCommitSigningError runs options commit old new error =
    (RejectsNothing (IsOwnedCommitError commit)
    × IsCarriedOut runs
    (sign_plan (sign_options_view options) (payload_of_commit (id_kind commit.tree) (owned_commit_lines commit))) old
    (signer_error error) new)
    ⊎ ((cause : encode.Error) × (error ≡ sign.Encode cause)
    × IsCommitEncodingError commit (payload_of_commit (id_kind commit.tree) (owned_commit_lines commit)) cause
    × (new ≡ old))

-- the signed commit is a copy of these lines that was signed
abbrev pub IsSignedCommitCopy : {S : Type 0} → (S → CallView → Answer → S → Type 0) → Options → CommitLines → S → S
    → Commit → Type 0
IsSignedCommitCopy runs options lines old new signed = (commit : Commit) × IsOwnedFormOfCommit lines commit
    × IsSignedCommit runs options commit old new signed

-- the error of signing a copy: the commit can't be copied, and no call was made; or its owned form isn't signed
abbrev pub IsCommitCopySigningError : {S : Type 0} → (S → CallView → Answer → S → Type 0) → Options → CommitLines → S
    → S → Error → Type 0
IsCommitCopySigningError runs options lines old new error =
    ((cause : decode.Error) × (error ≡ sign.Decode cause) × IsIntoOwnedCommitError lines cause × (new ≡ old))
    ⊎ ((commit : Commit) × IsOwnedFormOfCommit lines commit × IsCommitSigningError runs options commit old new error)
