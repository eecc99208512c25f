-- Decoding of trees (gitdatamodel, "trees"; git-fast-import, "filemodify", has the modes).
use Rattle.std.specs.Prelude.{◌≡◌, ◌++◌, ◌∷◌, ℕ, List, ⊤, length}
use Rattle.std.specs.List.{AllZip, concat}
use Rattle.gixobj_hash.specs.Runs as runs
use Rattle.gixobj_hash.specs.Runs.{Ending}
use Rattle.gixobj_hash.specs.Hash.{hash_len, id_bytes, id_kind}
use Rattle.gixobj_hash.specs.declared.decode.Error.{Error}
use Rattle.gixobj_hash.specs.declared.decode.Error.TheVariants.{Malformed, OutOfMemory}
use Rattle.gixobj_hash.specs.declared.hash.kind.Kind.{Kind}
use Rattle.gixobj_hash.specs.declared.hash.object_id.ObjectId.{ObjectId}
use Rattle.gixobj_hash.specs.Bytes.{space}
use Rattle.gixobj_hash.specs.ByteStrings.{IsByteFree}
use Rattle.gixobj_tree_entries.specs.Entries.{EntryView}
use Rattle.gixobj_tree_entries.specs.Mode.{ObeysByteSix, DecodesToMode}

-- an id of this kind, with the number of bytes of the kind
abbrev pub IsIdOf : Kind → ObjectId → Type 0
IsIdOf kind id = (id_kind id ≡ kind) × (length (id_bytes id) ≡ hash_len kind)

-- the bytes are the entry: the digits of its mode, a space, its name, a zero byte, its id
pub record DecodesToEntry (kind : Kind) (e : EntryView) (content : List ℕ) : Type 0 where
  pub digits : List ℕ
  pub joined : content ≡ digits ++ space ∷ (e.name ++ 0 ∷ id_bytes e.id)
  pub mode : DecodesToMode digits e.mode
  pub byte_six : ObeysByteSix content digits
  pub name : IsByteFree 0 e.name
  pub id : IsIdOf kind e.id

-- the bytes are the tree: the encodings of its entries, concatenated
abbrev pub DecodesToTree : Kind → List ℕ → List EntryView → Type 0
DecodesToTree kind content entries = (encodings : List (List ℕ)) × (content ≡ concat encodings)
    × AllZip (DecodesToEntry kind) entries encodings

-- the bytes are the encoding of no tree
abbrev pub IsMalformedTree : Kind → List ℕ → Type 0
IsMalformedTree kind content = (entries : List EntryView) → ¬ DecodesToTree kind content entries

-- the input begins with the encoding of this entry, and the rest follows
abbrev pub BeginsWithEntry : Kind → List ℕ → EntryView → List ℕ → Type 0
BeginsWithEntry kind input e rest = (content : List ℕ) × (input ≡ content ++ rest) × DecodesToEntry kind e content

-- the input does not begin with an entry
abbrev pub BeginsWithNoEntry : Kind → List ℕ → Type 0
BeginsWithNoEntry kind input = (e : EntryView) (rest : List ℕ) → ¬ BeginsWithEntry kind input e rest

-- the input begins with this id, and the rest follows
abbrev pub BeginsWithId : Kind → List ℕ → ObjectId → List ℕ → Type 0
BeginsWithId kind input id rest = (input ≡ id_bytes id ++ rest) × IsIdOf kind id

-- Malformed: the bytes are the encoding of no tree; OutOfMemory: they begin with an entry, for which the list
-- allocates
abbrev pub IsTreeDecodeError : Kind → List ℕ → Error → Type 0
IsTreeDecodeError kind content Malformed = IsMalformedTree kind content
IsTreeDecodeError kind content OutOfMemory = (e : EntryView) × (rest : List ℕ) × BeginsWithEntry kind content e rest

-- ---- entries, one by one: the iterator has a single state

-- a step of the iterator decodes one entry at the beginning of the input, and the rest remains
abbrev pub EntryStep : Kind → ⊤ → List ℕ → EntryView → ⊤ → List ℕ → Type 0
EntryStep kind before input e following rest = BeginsWithEntry kind input e rest

-- the complete run over this input yields these entries, and has this ending
abbrev pub YieldsEntries : Kind → List ℕ → List EntryView → Ending → Type 0
YieldsEntries kind input entries ending = runs.Yields (EntryStep kind) tt input entries ending
