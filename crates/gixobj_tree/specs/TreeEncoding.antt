-- Encoding of trees (gitdatamodel, "trees"; git-mktree reads the same entries as lines).
use Rattle.std.specs.Prelude.{◌≡◌, ℕ, List, [], ◌∷◌, ◌++◌, All, Contains, Err, Ok, Result}
use Rattle.std.specs.List.{flat_map}
use Rattle.gixobj_tree_entries.specs.Entries.{EntryView}
use Rattle.gixobj_hash.specs.Hash.{id_bytes, id_of}
use Rattle.gixobj_hash.specs.declared.hash.kind.Kind as hash
use Rattle.gixobj_hash.specs.declared.hash.object_id.ObjectId.{ObjectId}
use Rattle.gixobj_hash.specs.declared.kind.Kind.TheVariants.{Tree}
use Rattle.gixobj_tree_entries.specs.Mode.{encode_mode}
use Rattle.gixobj_hash.specs.ByteStrings.{IsByteFree}
use Rattle.gixobj_streams.specs.Writing.{IsEncodingError, RejectedValue, RejectsNothing, name_with_zero_byte}
use Rattle.gixobj_streams.specs.declared.encode.Error.{Error}
use Rattle.gixobj_hash.specs.Bytes.{space}

-- the bytes of an entry before its name: the mode and a space
abbrev pub before_name : EntryView → List ℕ
before_name e = encode_mode e.mode ++ space ∷ []

-- the encoding of an entry: mode, space, name, zero byte, id
abbrev pub encode_entry : EntryView → List ℕ
encode_entry e = before_name e ++ e.name ++ 0 ∷ id_bytes e.id

-- the encoding of a tree: those of its entries, concatenated
abbrev pub encode_tree : List EntryView → List ℕ
encode_tree entries = flat_map encode_entry entries

-- the name of an entry is rejected for a zero byte; written before the error are the mode and the space
abbrev pub IsEntryEncodeError : EntryView → RejectedValue → List ℕ → Type 0
IsEntryEncodeError e value parts = Contains e.name 0 × (value ≡ name_with_zero_byte e.name) × (parts ≡ before_name e)

-- the first name with a zero byte is rejected; written before the error are the entries before it, its mode and the
-- space
pub record IsTreeEncodeError (entries : List EntryView) (value : RejectedValue) (parts : List ℕ) : Type 0 where
  pub prefix : List EntryView
  pub entry : EntryView
  pub rest : List EntryView
  pub partial : List ℕ
  pub joined : entries ≡ prefix ++ entry ∷ rest
  pub no_zero_byte : All (λ e. IsByteFree 0 e.name) prefix
  pub rejected : IsEntryEncodeError entry value partial
  pub written : parts ≡ encode_tree prefix ++ partial

-- no name of the tree is rejected
abbrev pub IsEncodableTree : List EntryView → Type 0
IsEncodableTree entries = RejectsNothing (IsTreeEncodeError entries)

-- a name of the tree is rejected
abbrev pub IsUnencodableTree : List EntryView → Type 0
IsUnencodableTree entries = (value : RejectedValue) × (parts : List ℕ) × IsTreeEncodeError entries value parts

-- Ok: the id is the digest of the tree's encoding; Err: the error of writing the tree to an empty list
abbrev pub IsDigestResult : hash.Kind → List EntryView → Result ObjectId Error → Type 0
IsDigestResult hash tree (Ok id) = IsEncodableTree tree × (id ≡ id_of hash Tree (encode_tree tree))
IsDigestResult hash tree (Err error) = IsEncodingError (IsTreeEncodeError tree) (encode_tree tree) error
