-- The signature of a commit, and the data that it signs: all other bytes (gitformat-signature, "Commit signatures").
use Rattle.std.specs.Prelude.{ℕ, List, Option, codes}
use Rattle.gixobj_hash.specs.declared.decode.Error.{Error}
use Rattle.gixobj_hash.specs.declared.hash.kind.Kind.{Kind}
use Rattle.gixobj_hash.specs.declared.hash.kind.Kind.TheVariants as hash
use Rattle.gixobj_grammar.specs.CommitHeaders.{FindsNamedHeader, HasNamedHeader, HasNoNamedHeader, IsNamedHeaderError}
use Rattle.gixobj_grammar.specs.declared.headers.FoundHeader.{FoundHeader}

-- the name of the signature header of a commit (gitformat-signature, "Commit signatures")
abbrev pub signature_field : Kind → List ℕ
signature_field hash.Sha1 = codes "gpgsig"
signature_field hash.Sha256 = codes "gpgsig-sha256"

-- the first signature header has this value, and the signed data is all bytes except that header
abbrev pub HasCommitSignature : Kind → List ℕ → List ℕ → List ℕ → Type 0
HasCommitSignature kind content value signed = HasNamedHeader kind (signature_field kind) content value signed

-- the bytes decode to lines, to their end, and none of them is a signature header
abbrev pub HasNoSignature : Kind → List ℕ → Type 0
HasNoSignature kind content = HasNoNamedHeader kind (signature_field kind) content

-- the first signature header, with the bytes before it and after it, or none
abbrev pub FindsSignature : Kind → List ℕ → Option FoundHeader → Type 0
FindsSignature kind content = FindsNamedHeader kind (signature_field kind) content

-- Malformed: after lines that are no signature header comes a malformed one; OutOfMemory: after such lines comes a
-- header of several lines, whose value allocates
abbrev pub IsCommitSignatureError : Kind → List ℕ → Error → Type 0
IsCommitSignatureError kind content = IsNamedHeaderError kind (signature_field kind) content
