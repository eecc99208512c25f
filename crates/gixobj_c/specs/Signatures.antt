-- Results of the calls about signatures.
use Rattle.std.specs.Prelude.{◌≡◌, ◌⊎◌, ℕ, List, Option, Some, None}
use Rattle.gixobj_c_codes.specs.Buffers.{WritesTwo}
use Rattle.gixobj_c_codes.specs.Codes.{done, malformed, not_found, out_of_memory, unknown_code}
use Rattle.gixobj_c.specs.Spans.{IsSpanBefore}
use Rattle.gixobj_c.specs.declared.spans.Span.{Span}
use Rattle.gixobj_hash.specs.declared.decode.Error.TheVariants as error
use Rattle.gixobj_hash.specs.declared.hash.kind.Kind.{Kind}
use Rattle.gixobj_grammar.specs.CommitSignatures.{HasCommitSignature, HasNoSignature, IsCommitSignatureError}
use Rattle.gixobj_grammar.specs.TagSignatures.{HasTagSignature}
use Rattle.gixobj_parse.specs.Markers.{HasNoMarker}
use Rattle.gixobj_parse.specs.declared.signature.Format.{Format}

-- the position of the tag's signature, at its end, which signs all bytes before it; without one nothing is written
abbrev pub IsTagSignatureCall : List ℕ → Span → Span → ℕ → Type 0
IsTagSignatureCall tag before after status =
    ((status ≡ done) × ((signature signed : List ℕ) × (format : Format)
    × HasTagSignature tag signature signed format × IsSpanBefore tag signature 0 after))
    ⊎ ((status ≡ not_found) × HasNoMarker tag × (after ≡ before))

-- a header of several lines comes up to the signature, or there is a signature, for which the signed bytes are copied
abbrev pub NeedsSignatureAllocation : Kind → List ℕ → Type 0
NeedsSignatureAllocation kind commit = IsCommitSignatureError kind commit error.OutOfMemory
    ⊎ ((value payload : List ℕ) × HasCommitSignature kind commit value payload)

-- why no signature of the commit is found
abbrev pub IsSignatureStatus : Kind → List ℕ → ℕ → Type 0
IsSignatureStatus kind commit status = ((status ≡ not_found) × HasNoSignature kind commit)
    ⊎ (((status ≡ malformed) × IsCommitSignatureError kind commit error.Malformed)
    ⊎ ((status ≡ out_of_memory) × NeedsSignatureAllocation kind commit))

-- the commit's signature and the bytes that it signs are written, or the status says why there is none, and then
-- nothing is written
abbrev pub IsCommitSignatureCall : Option Kind → List ℕ → List ℕ → List ℕ → ℕ → ℕ → List ℕ → List ℕ → ℕ → ℕ → ℕ → Type 0
IsCommitSignatureCall (Some kind) commit before after len_before len signed_before signed_after signed_len_before
    signed_len status =
    ((value payload : List ℕ) × HasCommitSignature kind commit value payload
    × WritesTwo value before after len payload signed_before signed_after signed_len status)
    ⊎ (IsSignatureStatus kind commit status × (after ≡ before) × (len ≡ len_before)
    × (signed_after ≡ signed_before) × (signed_len ≡ signed_len_before))
IsCommitSignatureCall None commit before after len_before len signed_before signed_after signed_len_before signed_len
    status = (status ≡ unknown_code) × (after ≡ before) × (len ≡ len_before) × (signed_after ≡ signed_before)
    × (signed_len ≡ signed_len_before)
