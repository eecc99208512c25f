-- The signature of a commit, with the data that it signs: all other bytes (gitformat-signature, "Commit signatures").
use Rattle.std.specs.Prelude.{ℕ, List, Option, Some, None}
use Rattle.std.specs.Cow.{cow_slice_items}
use Rattle.std.specs.declared.borrow.CowSlice.{CowSlice}
use Rattle.std.specs.declared.alloc.Global.{Global}
use Rattle.gixobj_hash.specs.declared.hash.kind.Kind.{Kind}
use Rattle.gixobj_signature.specs.SignedBytes.{signed_bytes}
use Rattle.gixobj_signature.specs.declared.signature.signed_data.SignedData.{SignedData}
use Rattle.gixobj_grammar.specs.CommitSignatures.{HasCommitSignature, HasNoSignature}

-- the signature of these bytes with the data that it signs, or none
abbrev pub FindsSignatureOfCommit : Kind → List ℕ → Option (CowSlice ℕ Global × SignedData) → Type 0
FindsSignatureOfCommit kind content (Some it) = HasCommitSignature kind content (cow_slice_items it.0)
    (signed_bytes it.1)
FindsSignatureOfCommit kind content None = HasNoSignature kind content
