-- Records of objects, one after the other (git-cat-file, "BATCH OUTPUT").
use Rattle.std.specs.Prelude.{◌≡◌, ◌≢◌, ◌<◌, ◌+◌, ℕ, List, [], ◌∷◌, ◌++◌, length}
use Rattle.gixobj_hash.specs.ByteStrings.{IsByteFree, SplitsAt}
use Rattle.gixobj_hash.specs.Bytes.{newline}
use Rattle.gixobj_hash.specs.declared.hash.object_id.ObjectId.{ObjectId}
use Rattle.gixobj_hash.specs.declared.kind.Kind.{Kind}
use Rattle.gixobj_records.specs.Headers.{HasHeaderFault, IsHeader, IsValid, encode_header}
use Rattle.gixobj_records.specs.declared.header.Header.{Header}
use Rattle.gixobj_records.specs.declared.header.Header.TheVariants as header
use Rattle.gixobj_records.specs.declared.records.BatchError.{BatchError}
use Rattle.gixobj_records.specs.declared.records.BatchError.TheVariants as batch
use Rattle.gixobj_records.specs.declared.records.Record.{Record}
use Rattle.gixobj_records.specs.declared.records.Record.TheVariants as batched
use Rattle.gixobj_records.specs.declared.records.RecordFault.{RecordFault}
use Rattle.gixobj_records.specs.declared.records.RecordFault.TheVariants as fault

-- a record as contracts see it: an object with its id, kind and content; or the id of a missing object
pub data RecordView : Type 0 where
  object : ObjectId → Kind → List ℕ → RecordView
  missing : ObjectId → RecordView

-- the parts of a record
abbrev pub record_view : Record → RecordView
record_view (batched.Object id kind content) = object id kind content.now
record_view (batched.Missing id) = missing id

-- the header of a record
abbrev pub header_of : RecordView → Header
header_of (object id kind content) = header.Object id kind (length content)
header_of (missing id) = header.Missing id

-- the content of an object with a newline after it; nothing for a missing object
abbrev pub encode_content : RecordView → List ℕ
encode_content (object id kind content) = content ++ newline ∷ []
encode_content (missing id) = []

-- a record: the header in a line, and the content with a newline after it
abbrev pub encode_record : RecordView → List ℕ
encode_record it = encode_header (header_of it) ++ newline ∷ encode_content it

-- the input begins with this record, and the rest follows
pub record BeginsWithRecord (input : List ℕ) (it : RecordView) (rest : List ℕ) : Type 0 where
  pub joined : input ≡ encode_record it ++ rest
  pub valid : IsValid (header_of it)

-- the input begins with these records, and the rest follows
abbrev pub BeginsWithRecords : List ℕ → List RecordView → List ℕ → Type 0
BeginsWithRecords input [] rest = input ≡ rest
BeginsWithRecords input (first ∷ records) rest = (after : List ℕ) × BeginsWithRecord input first after
    × BeginsWithRecords after records rest

-- the input is the concatenation of these records
abbrev pub DecodesToRecords : List ℕ → List RecordView → Type 0
DecodesToRecords input records = BeginsWithRecords input records []

-- ---- faults

-- a line comes first, and the rest follows its newline; both are as the predicate says
abbrev pub HasLine : List ℕ → (List ℕ → List ℕ → Type 0) → Type 0
HasLine input Is = (line : List ℕ) × (rest : List ℕ) × SplitsAt newline input line rest × Is line rest

-- the line is the header of an object of this size
abbrev pub IsHeaderOfSize : List ℕ → ℕ → Type 0
IsHeaderOfSize line size = (id : ObjectId) × (kind : Kind) × IsHeader line (header.Object id kind size)

-- the bytes after a header are fewer than its size
abbrev pub IsShort : ℕ → List ℕ → Type 0
IsShort size after = length after < size

-- the bytes after a header have the content, and no newline comes next
abbrev pub LacksNewline : ℕ → List ℕ → Type 0
LacksNewline size after = (content rest : List ℕ) × (after ≡ content ++ rest) × (length content ≡ size)
    × ((more : List ℕ) → rest ≢ newline ∷ more)

-- why the bytes after a header are not its content and a newline
abbrev pub HasContentFault : ℕ → List ℕ → RecordFault → Type 0
HasContentFault size after fault.ShortContent = IsShort size after
HasContentFault size after fault.NoNewline = LacksNewline size after
HasContentFault size after other = ⊥

-- why the input does not begin with a record
abbrev pub HasRecordFault : List ℕ → RecordFault → Type 0
HasRecordFault input fault.UnendedHeader = IsByteFree newline input
HasRecordFault input (fault.Header cause) = HasLine input (λ line rest. HasHeaderFault line cause)
HasRecordFault input fault.ShortContent = HasLine input (λ line rest. (size : ℕ) × IsHeaderOfSize line size
    × IsShort size rest)
HasRecordFault input fault.NoNewline = HasLine input (λ line rest. (size : ℕ) × IsHeaderOfSize line size
    × LacksNewline size rest)

-- records come first, and no record begins at this offset after them, for this fault; or out of memory
abbrev pub IsBatchError : List ℕ → BatchError → Type 0
IsBatchError input (batch.Malformed offset cause) = (before : List RecordView) × (rest : List ℕ)
    × BeginsWithRecords input before rest × (offset + length rest ≡ length input) × (rest ≢ [])
    × HasRecordFault rest cause
IsBatchError input batch.OutOfMemory = input ≢ []
