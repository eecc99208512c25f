-- What is written of a signature, and where that of a tag is.
use Rattle.std.proofs.Common.{◌≡◌, ℕ, List, [], ◌++◌, ap, inl, refl, subst, sym, ◌∙◌}
use Rattle.std.proofs.lemmas.List.{append-nil}
use Rattle.std.specs.Prelude.{Some}
use Rattle.gixobj_c_codes.specs.Buffers.{WritesTwo}
use Rattle.gixobj_c.specs.Signatures.{IsCommitSignatureCall}
use Rattle.gixobj_c.specs.Spans.{HasPieceBefore}
use Rattle.gixobj_hash.specs.declared.hash.kind.Kind.{Kind}
use Rattle.gixobj_grammar.specs.CommitSignatures.{HasCommitSignature}

pub signature_before_end : (tag signed signature : List ℕ) → tag ≡ signed ++ signature → HasPieceBefore tag signature 0
signature_before_end tag signed signature joined = record {
  prefix = signed;
  rest = [];
  joined = joined ∙ ap (λ (bytes : List ℕ). signed ++ bytes) (sym (append-nil signature));
  remaining = refl;
}

pub signature_call_of_written : (kind : Kind) (commit value payload first second a b c d : List ℕ) (i m j n status : ℕ)
    → HasCommitSignature kind commit value payload
    → first ≡ value → second ≡ payload → WritesTwo first a b m second c d n status → IsCommitSignatureCall (Some kind) commit a b i m c d j n status
signature_call_of_written kind commit value payload first second a b c d i m j n status has same other writes =
    inl (
      first,
      second,
      subst (λ (it : List ℕ). HasCommitSignature kind commit it second) (sym same)
          (subst (λ (it : List ℕ). HasCommitSignature kind commit value it) (sym other) has),
      writes,
    )
