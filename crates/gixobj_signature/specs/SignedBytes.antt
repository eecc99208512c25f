-- The bytes that a signature covers.
use Rattle.std.specs.Prelude.{ℕ, List, ◌++◌}
use Rattle.gixobj_signature.specs.declared.signature.signed_data.SignedData.{SignedData}

-- the bytes before the signature, and then the bytes after it
abbrev pub signed_bytes : SignedData → List ℕ
signed_bytes it = it.before.now ++ it.after.now
