-- The signature of a tag with its format (gitformat-signature, "Tag signatures").
use Rattle.std.specs.Prelude.{◌≡◌, ℕ, List, Option, Some, None, ⊤}
use Rattle.bstr.specs.BStr.{bstr_bytes}
use Rattle.gixobj_parse.specs.Markers.{BeginsWithMarker, BeginsWithNoMarker}
use Rattle.gixobj_parse.specs.declared.signature.SignatureRef.{SignatureRef}

-- the signature with these bytes and the format whose marker begins them; none without bytes or without a marker
abbrev pub IsSignature : Option (List ℕ) → Option SignatureRef → Type 0
IsSignature None (Some it) = ⊥
IsSignature None None = ⊤
IsSignature (Some bytes) (Some it) = (bstr_bytes it.bytes ≡ bytes) × BeginsWithMarker it.format bytes
IsSignature (Some bytes) None = BeginsWithNoMarker bytes
