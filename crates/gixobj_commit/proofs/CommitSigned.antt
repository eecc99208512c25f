-- States that a signed commit has the signature of its payload, and why signing fails; the proofs of both `sign` calls
-- use it.
use Rattle.std.proofs.Common.{◌≡◌, ◌∙◌, ap, inl, inr, refl, subst, Bool, true, false, cond, List, [], ◌∷◌, ℕ, map, IfErr, IfOk, Result, Ok, Err}
use Rattle.std.specs.List.{filter}
use Rattle.gixobj_commit.specs.CommitOwned.{IsOwnedFormOfCommit}
use Rattle.gixobj_commit.specs.CommitSigning.{GetsCommitSignature, IsSignedCommit, IsSignedCommitCopy, IsCommitSigningError, IsCommitCopySigningError}
use Rattle.gixobj_commit.specs.CommitSigning.{IsCommitEncodingError, payload_of_commit, with_last_header, without_headers}
use Rattle.gixobj_commit.specs.CommitViews.{owned_commit_lines}
use Rattle.gixobj_commit.specs.CommitWriting.{IsOwnedCommitError, encode_commit}
use Rattle.gixobj_commit.specs.declared.commit.Commit.{Commit}
use Rattle.gixobj_grammar.specs.CommitSignatures.{signature_field}
use Rattle.gixobj_streams.specs.Writing.{IsEncodingError, RejectedValue, RejectsNothing}
use Rattle.gixobj_streams.specs.declared.encode.Error as encode
use Rattle.gixobj_hash.specs.Hash.{id_kind}
use Rattle.gixobj_grammar.specs.Commit.{CommitLines}
use Rattle.gixobj_signature_reports.specs.Calls.{Answer, CallView}
use Rattle.gixobj_signature.specs.Plans.{BeginsPlan, CarriesOut, IsCarriedOut, Plan, run_then, done, no_more}
use Rattle.gixobj_signature.specs.Signing.{sign_options_view, sign_plan, signature, signer_error}
use Rattle.gixobj_signature.specs.declared.signature.sign.Error.{Error}
use Rattle.gixobj_signature.specs.declared.signature.sign.Error.TheVariants as sign
use Rattle.gixobj_signature.specs.declared.signature.sign.Options.{Options}

-- a plan that is carried out is begun
pub begins_plan_of_call : {S R : Type 0} (runs : S → CallView → Answer → S → Type 0) (plan : Plan R) (s t : S) (outcome : R) → CarriesOut runs plan s outcome t
    → BeginsPlan runs plan s t
begins_plan_of_call runs (done it) s t outcome carried = carried.1
begins_plan_of_call runs (run_then call next) s t outcome (answer, m, ran, rest) = inr (answer, m, ran, begins_plan_of_call runs (next answer) m t outcome rest)
begins_plan_of_call runs no_more s t outcome carried = absurd carried

-- filtering a list and then taking views equals filtering the views
map_view_cond_cons : {X Y : Type 0} (view : X → Y) (x : X) (xs : List X) (ys : List Y) (b : Bool) → map view xs ≡ ys
    → map view (cond b (x ∷ xs) xs) ≡ cond b (view x ∷ ys) ys
map_view_cond_cons view x xs ys true same = ap (λ (rest : List _). view x ∷ rest) same
map_view_cond_cons view x xs ys false same = same

pub map_filter_view : {X Y : Type 0} (view : X → Y) (test : Y → Bool) (xs : List X) → map view (filter (λ x. test (view x)) xs) ≡ filter test
    (map view xs)
map_filter_view view test [] = refl
map_filter_view view test (x ∷ xs) = map_view_cond_cons view x (filter (λ y. test (view y)) xs) (filter test (map view xs)) (test (view x))
    (map_filter_view view test xs)

-- a commit, and the same commit without its signature headers
module _ (commit other : Commit) (others : other ≡ record commit { extra_headers = other.extra_headers }) (name : List ℕ)
    (named : name ≡ signature_field (id_kind commit.tree))
    (kept : owned_commit_lines other ≡ without_headers name (owned_commit_lines commit)) where
  -- their encoders reject the same values
  rejects_same : IsOwnedCommitError other ≡ IsOwnedCommitError commit
  rejects_same = ap IsOwnedCommitError others

  kept_lines : owned_commit_lines other ≡ without_headers (signature_field (id_kind commit.tree)) (owned_commit_lines commit)
  kept_lines = kept ∙ ap (λ (it : List ℕ). without_headers it (owned_commit_lines commit)) named

  -- the commit gets the signature of its payload
  pub signed : {S : Type 0} (runs : S → CallView → Answer → S → Type 0) (options : Options) (payload : List ℕ)
      → payload ≡ encode_commit (owned_commit_lines other) → RejectsNothing (IsOwnedCommitError other) → (old new : S)
      → (result : Result Commit Error) → IfOk result (GetsCommitSignature runs options payload name other old new)
      → IfOk result (IsSignedCommit runs options commit old new)
  signed runs options payload content writable old new (Ok it) (bytes, written_is, lines) = record {
    bytes = bytes;
    called = subst (λ (signs : List ℕ). CarriesOut runs (sign_plan (sign_options_view options) signs) old (signature bytes) new)
        (content ∙ ap encode_commit kept_lines) written_is;
    lines = lines ∙ ap (λ (of : CommitLines). with_last_header name bytes of) kept_lines
        ∙ ap (λ (it : List ℕ). with_last_header it bytes (without_headers (signature_field (id_kind commit.tree)) (owned_commit_lines commit))) named;
    writable = subst RejectsNothing rejects_same writable;
  }
  signed runs options payload content writable old new (Err error) is = tt

  -- signing a commit that can be written fails with the error of the call
  pub failed_signing : {S : Type 0} (runs : S → CallView → Answer → S → Type 0) (options : Options) (payload : List ℕ)
      → payload ≡ encode_commit (owned_commit_lines other) → RejectsNothing (IsOwnedCommitError other) → (old new : S)
      → (result : Result Commit Error)
      → IfErr result (λ error. IsCarriedOut runs (sign_plan (sign_options_view options) payload) old (signer_error error) new)
      → IfErr result (IsCommitSigningError runs options commit old new)
  failed_signing runs options payload content writable old new (Ok it) why = tt
  failed_signing runs options payload content writable old new (Err error) why =
      inl (
        subst RejectsNothing rejects_same writable,
        subst
            (λ (signs : List ℕ). IsCarriedOut runs (sign_plan (sign_options_view options) signs) old (signer_error error) new)
            (content ∙ ap encode_commit kept_lines) why,
      )

  -- signing a commit that can't be written fails before any call
  pub rejected_unwritten : {S : Type 0} (runs : S → CallView → Answer → S → Type 0) (options : Options) (old : S) (cause : encode.Error)
      → IsCommitEncodingError other (encode_commit (owned_commit_lines other)) cause → IsCommitSigningError runs options commit old old
      (sign.Encode cause)
  rejected_unwritten runs options old cause why =
      let payload = payload_of_commit (id_kind commit.tree) (owned_commit_lines commit) in
      let of_bytes : IsEncodingError (IsOwnedCommitError other) payload cause =
      subst (λ (it : List ℕ). IsEncodingError (IsOwnedCommitError other) it cause) (ap encode_commit kept_lines) why in
      inr (cause, refl, subst (λ (it : RejectedValue → List ℕ → Type 0). IsEncodingError it payload cause) rejects_same of_bytes, refl)

-- the result of signing a copy
module _ {S : Type 0} (runs : S → CallView → Answer → S → Type 0) (options : Options) (lines : CommitLines) (commit : Commit)
    (owned : IsOwnedFormOfCommit lines commit) (old new : S) where
  pub signed_copy : (result : Result Commit Error) → IfOk result (IsSignedCommit runs options commit old new)
      → IfOk result (IsSignedCommitCopy runs options lines old new)
  signed_copy (Ok it) is = (commit, owned, is)
  signed_copy (Err error) is = tt

  pub rejected_copy : (result : Result Commit Error) → IfErr result (IsCommitSigningError runs options commit old new)
      → IfErr result (IsCommitCopySigningError runs options lines old new)
  rejected_copy (Ok it) why = tt
  rejected_copy (Err error) why = inr (commit, owned, why)
