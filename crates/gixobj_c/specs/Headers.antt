-- Results of the call about the extra headers of commits.
use Rattle.std.specs.Prelude.{◌≡◌, ◌⊎◌, ℕ, List, Option, Some, None}
use Rattle.gixobj_c_codes.specs.Buffers.{WritesBytes}
use Rattle.gixobj_c_codes.specs.Codes.{malformed, not_found, out_of_memory, unknown_code}
use Rattle.gixobj_hash.specs.declared.decode.Error.TheVariants as error
use Rattle.gixobj_hash.specs.declared.hash.kind.Kind.{Kind}
use Rattle.gixobj_grammar.specs.CommitHeaders.{HasNamedHeader, HasNoNamedHeader, IsNamedHeaderError}

-- why no header of this name is found: all lines are valid and none is such a header, a malformed line comes before
-- any such header, or a header of several lines does, whose value allocates
abbrev pub IsHeaderStatus : Kind → List ℕ → List ℕ → ℕ → Type 0
IsHeaderStatus kind commit name status = ((status ≡ not_found) × HasNoNamedHeader kind name commit)
    ⊎ (((status ≡ malformed) × IsNamedHeaderError kind name commit error.Malformed)
    ⊎ ((status ≡ out_of_memory) × IsNamedHeaderError kind name commit error.OutOfMemory))

-- the value of the first header of this name is written; otherwise nothing is
abbrev pub IsCommitHeaderCall : Option Kind → List ℕ → List ℕ → List ℕ → List ℕ → ℕ → ℕ → ℕ → Type 0
IsCommitHeaderCall (Some kind) commit name before after len_before len status =
    ((value others : List ℕ) × HasNamedHeader kind name commit value others
    × WritesBytes value before after len status)
    ⊎ (IsHeaderStatus kind commit name status × (after ≡ before) × (len ≡ len_before))
IsCommitHeaderCall None commit name before after len_before len status =
    (status ≡ unknown_code) × (after ≡ before) × (len ≡ len_before)
