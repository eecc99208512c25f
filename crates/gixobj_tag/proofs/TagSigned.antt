-- Lemmas on signed tags and their payloads.
use Rattle.std.proofs.Common.{◌≡◌, ◌∙◌, ap, inl, inr, subst, sym, refl, IfErr, IfOk, List, [], ◌∷◌, ◌++◌, ℕ, Some, Result, Ok, Err}
use Rattle.gixobj_streams.specs.Writing.{RejectsNothing}
use Rattle.gixobj_signature_reports.specs.Calls.{Answer, CallView}
use Rattle.gixobj_signature.specs.Plans.{CarriesOut, IsCarriedOut}
use Rattle.gixobj_signature.specs.Signing.{sign_options_view, sign_plan, signature, signer_error}
use Rattle.gixobj_signature.specs.declared.signature.sign.Error.{Error}
use Rattle.gixobj_signature.specs.declared.signature.sign.Options.{Options}
use Rattle.gixobj_tag.specs.TagOwned.{IsOwnedFormOfTag}
use Rattle.gixobj_tag.specs.TagSigning.{GetsTagSignature, HasNoPayload, IsSignedTag, IsSignedTagCopy, IsTagSigningError, IsTagCopySigningError}
use Rattle.gixobj_tag.specs.TagSigning.{IsTagEncodingError, payload_of_tag, signed_as, unsigned}
use Rattle.gixobj_tag.specs.TagFormat.{TagLines}
use Rattle.gixobj_tag.specs.TagViews.{owned_tag_lines}
use Rattle.gixobj_tag.specs.TagWriting.{IsOwnedTagError, encode_tag}
use Rattle.gixobj_tag.specs.declared.tag.Tag.{Tag}
use Rattle.gixobj_hash.specs.Bytes.{newline}
use Rattle.gixobj_signature.proofs.Steps.{begins_plan_refl}

-- a tag without payload is rejected before any call
pub signing_error_of_write : {S : Type 0} (runs : S → CallView → Answer → S → Type 0) (options : Options) (tag without : Tag) → without ≡ unsigned tag
    → (old : S) (error : Error)
    → HasNoPayload without error → IsTagSigningError runs options tag old old error
signing_error_of_write runs options tag without same old error (inl (writable, wants)) =
    inl (
      subst (λ (of : Tag). RejectsNothing (IsOwnedTagError of)) same writable,
      subst (λ (it : Error). IsCarriedOut runs (sign_plan (sign_options_view options) (payload_of_tag (owned_tag_lines tag))) old (signer_error it) old)
          (sym wants)
          (begins_plan_refl runs (sign_plan (sign_options_view options) (payload_of_tag (owned_tag_lines tag))) old),
    )
signing_error_of_write runs options tag without same old error (inr (cause, is, why)) =
    inr (cause, is, subst (λ (it : Tag). IsTagEncodingError it cause) same why, refl)

-- a tag has the signature of its payload
pub is_signed_tag_of_signature : {S : Type 0} (runs : S → CallView → Answer → S → Type 0) (options : Options) (tag without : Tag) → without ≡ unsigned tag
    → (payload : List ℕ)
    → payload ≡ encode_tag (owned_tag_lines without) ++ newline ∷ [] → RejectsNothing (IsOwnedTagError without)
    → (old new : S) (result : Result Tag Error)
    → IfOk result (GetsTagSignature runs options payload without old new) → IfOk result (IsSignedTag runs options tag old new)
is_signed_tag_of_signature runs options tag without same payload content writable old new (Ok it) (bytes, written_is, lines) = record {
  bytes = bytes;
  called = subst (λ (signs : List ℕ). CarriesOut runs (sign_plan (sign_options_view options) signs) old (signature bytes) new)
      (content ∙ ap (λ (of : Tag). encode_tag (owned_tag_lines of) ++ newline ∷ []) same) written_is;
  lines = lines ∙ ap (λ (of : Tag). signed_as (Some bytes) (owned_tag_lines of)) same;
  writable = subst (λ (of : Tag). RejectsNothing (IsOwnedTagError of)) same writable;
}
is_signed_tag_of_signature runs options tag without same payload content writable old new (Err error) is = tt

-- the error of a tag with a payload is that of the call
pub signing_error_of_runner : {S : Type 0} (runs : S → CallView → Answer → S → Type 0) (options : Options) (tag without : Tag) → without ≡ unsigned tag
    → (payload : List ℕ)
    → payload ≡ encode_tag (owned_tag_lines without) ++ newline ∷ [] → RejectsNothing (IsOwnedTagError without)
    → (old new : S) (result : Result Tag Error)
    → IfErr result (λ error. IsCarriedOut runs (sign_plan (sign_options_view options) payload) old (signer_error error) new)
    → IfErr result (IsTagSigningError runs options tag old new)
signing_error_of_runner runs options tag without same payload content writable old new (Ok it) why = tt
signing_error_of_runner runs options tag without same payload content writable old new (Err error) why =
    inl (
      subst (λ (of : Tag). RejectsNothing (IsOwnedTagError of)) same writable,
      subst (λ (signs : List ℕ). IsCarriedOut runs (sign_plan (sign_options_view options) signs) old (signer_error error) new)
          (content ∙ ap (λ (of : Tag). encode_tag (owned_tag_lines of) ++ newline ∷ []) same) why,
    )

-- results of signing a copy
module _ {S : Type 0} (runs : S → CallView → Answer → S → Type 0) (options : Options) (lines : TagLines) (tag : Tag)
    (owned : IsOwnedFormOfTag lines tag)
    (old new : S) where
  pub signed_copy : (result : Result Tag Error) → IfOk result (IsSignedTag runs options tag old new)
      → IfOk result (IsSignedTagCopy runs options lines old new)
  signed_copy (Ok it) is = (tag, owned, is)
  signed_copy (Err error) is = tt

  pub rejected_copy : (result : Result Tag Error) → IfErr result (IsTagSigningError runs options tag old new)
      → IfErr result (IsTagCopySigningError runs options lines old new)
  rejected_copy (Ok it) why = tt
  rejected_copy (Err error) why = inr (tag, owned, why)
