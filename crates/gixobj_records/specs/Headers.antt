-- The header of a record: the id, the kind and the size of an object, or the id of a missing one (git-cat-file, "BATCH
-- OUTPUT").
use Rattle.std.specs.Prelude.{◌≡◌, ◌≢◌, ◌<◌, ◌^◌, ℕ, List, ◌∷◌, ◌++◌, codes, decimal}
use Rattle.gixobj_hash.specs.Bytes.{space}
use Rattle.gixobj_hash.specs.Hash.{IsId, encode_id_hex}
use Rattle.gixobj_hash.specs.Kind.{kind_name}
use Rattle.gixobj_hash.specs.declared.hash.object_id.ObjectId.{ObjectId}
use Rattle.gixobj_hash.specs.declared.kind.Kind.{Kind}
use Rattle.gixobj_records.specs.declared.header.Header.{Header}
use Rattle.gixobj_records.specs.declared.header.Header.TheVariants as header
use Rattle.gixobj_records.specs.declared.header.HeaderFault.{HeaderFault}
use Rattle.gixobj_records.specs.declared.header.HeaderFault.TheVariants as fault

-- the id in hex and a space, before the rest of a header
abbrev pub id_field : ObjectId → List ℕ → List ℕ
id_field id rest = encode_id_hex id ++ space ∷ rest

-- the name of the kind, a space and the size in decimal
abbrev pub kind_and_size : Kind → ℕ → List ℕ
kind_and_size kind size = kind_name kind ++ space ∷ decimal size

-- the line of a header, without its newline
abbrev pub encode_header : Header → List ℕ
encode_header (header.Object id kind size) = id_field id (kind_and_size kind size)
encode_header (header.Missing id) = id_field id (codes "missing")

-- the id of a header
abbrev pub header_id : Header → ObjectId
header_id (header.Object id kind size) = id
header_id (header.Missing id) = id

-- the size of the content after a header; none follows that of a missing object
abbrev pub header_size : Header → ℕ
header_size (header.Object id kind size) = size
header_size (header.Missing id) = 0

-- the header is one of a program: its id is one, and its size has at most 64 bits
pub record IsValid (it : Header) : Type 0 where
  pub id : IsId (header_id it)
  pub fits : header_size it < 2 ^ 64

-- the line is this header
pub record IsHeader (line : List ℕ) (it : Header) : Type 0 where
  pub encoded : line ≡ encode_header it
  pub valid : IsValid it

-- ---- faults

-- the line begins with no id and space
abbrev pub HasNoId : List ℕ → Type 0
HasNoId line = (id : ObjectId) (rest : List ℕ) → IsId id → line ≢ id_field id rest

-- an id and a space come first; then neither `missing` alone, nor the name of a kind and a space
abbrev pub HasUnknownKind : List ℕ → Type 0
HasUnknownKind line = (id : ObjectId) × (after : List ℕ) × IsId id × (line ≡ id_field id after)
    × (after ≢ codes "missing") × ((kind : Kind) (rest : List ℕ) → after ≢ kind_name kind ++ space ∷ rest)

-- an id, a kind and their spaces come first; then no size in decimal that has at most 64 bits
abbrev pub HasInvalidSize : List ℕ → Type 0
HasInvalidSize line = (id : ObjectId) × (kind : Kind) × (digits : List ℕ) × IsId id
    × (line ≡ id_field id (kind_name kind ++ space ∷ digits)) × ((size : ℕ) → size < 2 ^ 64 → digits ≢ decimal size)

-- why the line is no header
abbrev pub HasHeaderFault : List ℕ → HeaderFault → Type 0
HasHeaderFault line fault.InvalidId = HasNoId line
HasHeaderFault line fault.UnknownKind = HasUnknownKind line
HasHeaderFault line fault.InvalidSize = HasInvalidSize line
