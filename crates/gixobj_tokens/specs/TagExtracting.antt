-- The signature of a tag, with the data that it signs: all bytes before it (gitformat-signature, "Tag signatures").
use Rattle.std.specs.Prelude.{ℕ, List}
use Rattle.bstr.specs.BStr.{bstr_bytes}
use Rattle.gixobj_signature.specs.SignedBytes.{signed_bytes}
use Rattle.gixobj_signature.specs.declared.signature.signed_data.SignedData.{SignedData}
use Rattle.gixobj_parse.specs.declared.signature.SignatureRef.{SignatureRef}
use Rattle.gixobj_grammar.specs.TagSignatures.{HasTagSignature}

-- the signature with its format, and the data that it signs, are those of these bytes
abbrev pub FindsSignatureOfTag : List ℕ → SignatureRef × SignedData → Type 0
FindsSignatureOfTag content it = HasTagSignature content (bstr_bytes it.0.bytes) (signed_bytes it.1) it.0.format
