-- What is written of the value of a header.
use Rattle.std.proofs.Common.{◌≡◌, ℕ, List, inl, subst, sym}
use Rattle.std.specs.Prelude.{Some}
use Rattle.gixobj_c_codes.specs.Buffers.{WritesBytes}
use Rattle.gixobj_c.specs.Headers.{IsCommitHeaderCall}
use Rattle.gixobj_hash.specs.declared.hash.kind.Kind.{Kind}
use Rattle.gixobj_grammar.specs.CommitHeaders.{HasNamedHeader}

pub header_call_of_written : (kind : Kind) (commit name value others written before after : List ℕ) (len_before len status : ℕ)
    → HasNamedHeader kind name commit value others
    → written ≡ value → WritesBytes written before after len status → IsCommitHeaderCall (Some kind) commit name before after len_before len status
header_call_of_written kind commit name value others written before after len_before len status has same writes =
    inl (written, others, subst (λ (it : List ℕ). HasNamedHeader kind name commit it others) (sym same) has, writes)
