-- Signing of tags (gitformat-signature, "Tag signatures").
use Rattle.std.specs.Prelude.{◌≡◌, ◌⊎◌, ℕ, List, [], ◌∷◌, ◌++◌, Option, Some, None}
use Rattle.gixobj_streams.specs.Writing.{IsEncodingError, RejectsNothing}
use Rattle.gixobj_streams.specs.declared.encode.Error as encode
use Rattle.gixobj_hash.specs.declared.decode.Error as decode
use Rattle.gixobj_signature_reports.specs.Calls.{Answer, CallView}
use Rattle.gixobj_signature.specs.Plans.{CarriesOut, IsCarriedOut}
use Rattle.gixobj_signature.specs.Signing.{sign_options_view, sign_plan, signature, signer_error}
use Rattle.gixobj_signature.specs.declared.signature.sign.Error.{Error}
use Rattle.gixobj_signature.specs.declared.signature.sign.Error.TheVariants as sign
use Rattle.gixobj_signature.specs.declared.signature.sign.Options.{Options}
use Rattle.gixobj_tag.specs.TagOwned.{IsOwnedFormOfTag, IsIntoOwnedTagError}
use Rattle.gixobj_tag.specs.TagFormat.{TagLines}
use Rattle.gixobj_tag.specs.TagViews.{owned_tag_lines}
use Rattle.gixobj_tag.specs.TagWriting.{IsOwnedTagError, encode_tag}
use Rattle.gixobj_tag.specs.declared.tag.Tag.{Tag}
use Rattle.gixobj_hash.specs.Bytes.{newline}

-- the tag without its signature
abbrev pub unsigned : Tag → Tag
unsigned tag = record tag { signature = None }

-- the fields of the tag with this signature, or without one
abbrev pub signed_as : Option (List ℕ) → TagLines → TagLines
signed_as bytes tag = record tag { signature = bytes }

-- the payload of a tag: its encoding without signature, and a newline
abbrev pub payload_of_tag : TagLines → List ℕ
payload_of_tag tag = encode_tag (signed_as None tag) ++ newline ∷ []

-- the plan for this payload led to a signature, and the tag has it
abbrev pub GetsTagSignature : {S : Type 0} → (S → CallView → Answer → S → Type 0) → Options → List ℕ → Tag → S → S → Tag
    → Type 0
GetsTagSignature runs options payload tag old new signed =
    (bytes : List ℕ) × CarriesOut runs (sign_plan (sign_options_view options) payload) old (signature bytes) new
    × (owned_tag_lines signed ≡ signed_as (Some bytes) (owned_tag_lines tag))

-- no value of the tag is rejected; the plan for its payload led to a signature, and the tag has it
pub record IsSignedTag {S : Type 0} (runs : S → CallView → Answer → S → Type 0) (options : Options) (tag : Tag)
    (old new : S) (signed : Tag) : Type 0 where
  pub bytes : List ℕ
  pub called : CarriesOut runs (sign_plan (sign_options_view options) (payload_of_tag (owned_tag_lines tag))) old
      (signature bytes) new
  pub lines : owned_tag_lines signed ≡ signed_as (Some bytes) (owned_tag_lines tag)
  pub writable : RejectsNothing (IsOwnedTagError tag)

-- why encoding a tag fails
abbrev pub IsTagEncodingError : Tag → encode.Error → Type 0
IsTagEncodingError tag cause = IsEncodingError (IsOwnedTagError tag) (encode_tag (owned_tag_lines tag)) cause

-- the error of a tag without signature that has no payload: it can't be encoded, or memory ran out for the newline
-- after it
abbrev pub HasNoPayload : Tag → Error → Type 0
HasNoPayload tag error = (RejectsNothing (IsOwnedTagError tag) × (error ≡ sign.OutOfMemory))
    ⊎ ((cause : encode.Error) × (error ≡ sign.Encode cause) × IsTagEncodingError tag cause)

-- why signing fails: the plan for the payload led to this error, and no value of the tag is rejected. Or the tag can't
-- be encoded without its signature, and no call was made
abbrev pub IsTagSigningError : {S : Type 0} → (S → CallView → Answer → S → Type 0) → Options → Tag → S → S → Error
    → Type 0
IsTagSigningError runs options tag old new error =
    (RejectsNothing (IsOwnedTagError tag)
    × IsCarriedOut runs (sign_plan (sign_options_view options) (payload_of_tag (owned_tag_lines tag))) old
    (signer_error error) new)
    ⊎ ((cause : encode.Error) × (error ≡ sign.Encode cause) × IsTagEncodingError (unsigned tag) cause × (new ≡ old))

-- an owned form of the tag was signed
abbrev pub IsSignedTagCopy : {S : Type 0} → (S → CallView → Answer → S → Type 0) → Options → TagLines → S → S → Tag
    → Type 0
IsSignedTagCopy runs options lines old new signed = (tag : Tag) × IsOwnedFormOfTag lines tag
    × IsSignedTag runs options tag old new signed

-- the error of signing a copy: the tag can't be copied, and no call was made; or its owned form isn't signed
abbrev pub IsTagCopySigningError : {S : Type 0} → (S → CallView → Answer → S → Type 0) → Options → TagLines → S → S
    → Error → Type 0
IsTagCopySigningError runs options lines old new error =
    ((cause : decode.Error) × (error ≡ sign.Decode cause) × IsIntoOwnedTagError lines cause × (new ≡ old))
    ⊎ ((tag : Tag) × IsOwnedFormOfTag lines tag × IsTagSigningError runs options tag old new error)
