-- Results of the calls about entire objects.
use Rattle.std.specs.Prelude.{◌≡◌, ◌≢◌, ◌⊎◌, ℕ, List, Option, Some, ⊤}
use Rattle.gixobj_c_codes.specs.Buffers.{WritesPrefix}
use Rattle.gixobj_c_codes.specs.Codes.{done, malformed, mismatch, unknown_code}
use Rattle.gixobj_hash.specs.Hash.{id_bytes, id_of}
use Rattle.gixobj_hash.specs.declared.hash.kind.Kind as hash
use Rattle.gixobj_hash.specs.declared.kind.Kind.{Kind}
use Rattle.gixobj_hash.specs.declared.kind.Kind.TheVariants as kind
use Rattle.gixobj_grammar.specs.Commit.{IsCommit}
use Rattle.gixobj_grammar.specs.TagPrefix.{IsTag}
use Rattle.gixobj_tree_entries.specs.Entries.{EntryView}
use Rattle.gixobj_tree_entries.specs.TreeDecoding.{DecodesToTree}

-- writes the id of the object of these kinds and this content; an unknown number leaves the buffer unchanged
abbrev pub IsIdCall : Option hash.Kind → Option Kind → List ℕ → List ℕ → List ℕ → ℕ → Type 0
IsIdCall (Some hash) (Some kind) content before after status =
    WritesPrefix (id_bytes (id_of hash kind content)) before after status
IsIdCall _ _ content before after status = (status ≡ unknown_code) × (after ≡ before)

-- whether this is the id of the object of these kinds and this content
abbrev pub IsVerifyCall : Option hash.Kind → Option Kind → List ℕ → List ℕ → ℕ → Type 0
IsVerifyCall (Some hash) (Some kind) content id status =
    ((status ≡ done) × (id ≡ id_bytes (id_of hash kind content)))
    ⊎ ((status ≡ mismatch) × (id ≢ id_bytes (id_of hash kind content)))
IsVerifyCall _ _ content id status = status ≡ unknown_code

-- the bytes are the encoding of some tree
abbrev pub IsTree : hash.Kind → List ℕ → Type 0
IsTree hash bytes = (entries : List EntryView) × DecodesToTree hash bytes entries

-- the bytes are the encoding of some object of this kind; of a blob all bytes are
abbrev pub IsObject : hash.Kind → Kind → List ℕ → Type 0
IsObject hash kind.Tree bytes = IsTree hash bytes
IsObject hash kind.Blob bytes = ⊤
IsObject hash kind.Commit bytes = IsCommit hash bytes
IsObject hash kind.Tag bytes = IsTag hash bytes

-- whether the bytes are the encoding of an object of these kinds
abbrev pub IsCheckCall : Option hash.Kind → Option Kind → List ℕ → ℕ → Type 0
IsCheckCall (Some hash) (Some kind) bytes status = ((status ≡ done) × IsObject hash kind bytes)
    ⊎ ((status ≡ malformed) × ¬ IsObject hash kind bytes)
IsCheckCall _ _ bytes status = status ≡ unknown_code
