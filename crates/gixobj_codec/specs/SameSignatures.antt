-- Signatures of tags, found in two ways (gitformat-signature, "Tag signatures").
use Rattle.std.specs.Prelude.{◌≡◌, Option, Some, None, ⊤}
use Rattle.bstr.specs.BStr.{bstr_bytes}
use Rattle.gixobj_parse.specs.declared.signature.SignatureRef.{SignatureRef}
use Rattle.gixobj_signature.specs.declared.signature.signed_data.SignedData.{SignedData}

-- a tag's own signature, and the one found in an encoding with the data that it signs: both none, or the same bytes and
-- format
abbrev pub AreSameSignatures : Option SignatureRef → Option (SignatureRef × SignedData) → Type 0
AreSameSignatures None None = ⊤
AreSameSignatures None (Some found) = ⊥
AreSameSignatures (Some own) None = ⊥
AreSameSignatures (Some own) (Some found) =
    (bstr_bytes found.0.bytes ≡ bstr_bytes own.bytes) × (found.0.format ≡ own.format)
