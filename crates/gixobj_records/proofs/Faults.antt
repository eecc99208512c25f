-- No record begins where a fault is, and malformed input is the concatenation of no records.
use Rattle.std.proofs.Common.{◌≡◌, ◌≢◌, ℕ, List, [], ◌∷◌, ◌++◌, ◌∙◌, ap, append_assoc, arith, length, length-append, refl, subst, sym}
use Rattle.gixobj_hash.proofs.Splits.{no_split_of_byte_free, split_parts_unique}
use Rattle.gixobj_hash.specs.ByteStrings.{IsByteFree, SplitsAt}
use Rattle.gixobj_hash.specs.declared.hash.object_id.ObjectId.{ObjectId}
use Rattle.gixobj_hash.specs.declared.kind.Kind.{Kind}
use Rattle.gixobj_records.specs.Headers.{IsHeader, encode_header}
use Rattle.gixobj_records.specs.Records.{BeginsWithRecord, BeginsWithRecords, DecodesToRecords, HasRecordFault, IsBatchError, IsHeaderOfSize, IsShort}
use Rattle.gixobj_records.specs.Records.{LacksNewline, RecordView, encode_content, header_of, missing, object}
use Rattle.gixobj_records.specs.declared.header.Header.TheVariants as header
use Rattle.gixobj_records.specs.declared.records.BatchError.TheVariants as batch
use Rattle.gixobj_records.specs.declared.records.RecordFault.{RecordFault}
use Rattle.gixobj_records.specs.declared.records.RecordFault.TheVariants as fault
use Rattle.gixobj_records.proofs.Headers.{encode_header_injective, header_is_newline_free, no_fault_of_header}
use Rattle.gixobj_records.proofs.RecordLists.{no_record_of_nil, prefix_of_len_unique, record_joined, record_unique}

-- the line of a record is its header, and its content follows
line_unique : (input : List ℕ) (it : RecordView) (rest line after : List ℕ) → BeginsWithRecord input it rest → SplitsAt 10 input line after
    → IsHeader line (header_of it) × (after ≡ encode_content it ++ rest)
line_unique input it rest line after begins split =
    let parts = split_parts_unique 10 line after (encode_header (header_of it)) (encode_content it ++ rest) split.first
    (header_is_newline_free (header_of it) begins.valid) (sym split.joined ∙ begins.joined ∙ record_joined it rest) in
    (record { encoded = parts.0; valid = begins.valid }, parts.1)

-- the size in the header of an object is the length of its content
size_unique : (line : List ℕ) (it : RecordView) (size : ℕ) → IsHeader line (header_of it) → IsHeaderOfSize line size
    → (id : ObjectId) × (kind : Kind) × (content : List ℕ) × (it ≡ object id kind content) × (length content ≡ size)
size_unique line (object id kind content) size is (id', kind', other) =
    let same = encode_header_injective (header_of (object id kind content)) (header.Object id' kind' size) is.valid other.valid
    (sym is.encoded ∙ other.encoded) in
    (id, kind, content, refl, cc same)
size_unique line (missing id) size is (id', kind', other) =
    let same = encode_header_injective (header_of (missing id)) (header.Object id' kind' size) is.valid other.valid (sym is.encoded ∙ other.encoded) in
    cc same

object_content : (it : RecordView) (id : ObjectId) (kind : Kind) (content rest after : List ℕ) → it ≡ object id kind content
    → after ≡ encode_content it ++ rest → after ≡ content ++ 10 ∷ rest
object_content it id kind content rest after is joined =
    joined ∙ ap (λ (r : RecordView). encode_content r ++ rest) is ∙ append_assoc content (10 ∷ []) rest

not_short : (size : ℕ) (content rest after : List ℕ) → length content ≡ size → after ≡ content ++ 10 ∷ rest → IsShort size after → ⊥
not_short size content rest after len joined short = omega (arith, ap length joined, length-append content (10 ∷ rest))

no_newline_lacks : (size : ℕ) (content rest after : List ℕ) → length content ≡ size → after ≡ content ++ 10 ∷ rest → LacksNewline size after → ⊥
no_newline_lacks size content rest after len joined (other, follows, parts, other_len, lacks) =
    let same = prefix_of_len_unique content (10 ∷ rest) other follows (len ∙ sym other_len) (sym joined ∙ parts) in
    lacks rest (sym same.1)

pub no_fault_of_record : (input : List ℕ) (it : RecordView) (rest : List ℕ) (cause : RecordFault) → BeginsWithRecord input it rest
    → HasRecordFault input cause → ⊥
no_fault_of_record input it rest fault.UnendedHeader begins free =
    no_split_of_byte_free 10 (encode_header (header_of it)) (encode_content it ++ rest)
    (let P : List ℕ → Type 0 = IsByteFree 10 in subst P (begins.joined ∙ record_joined it rest) free)
no_fault_of_record input it rest (fault.Header cause) begins (line, after, split, faulty) =
    no_fault_of_header line (header_of it) cause (line_unique input it rest line after begins split).0 faulty
no_fault_of_record input it rest fault.ShortContent begins (line, after, split, (size, of_size, short)) =
    let parts = line_unique input it rest line after begins split in
    let (id, kind, content, is, len) = size_unique line it size parts.0 of_size in
    not_short size content rest after len (object_content it id kind content rest after is parts.1) short
no_fault_of_record input it rest fault.NoNewline begins (line, after, split, (size, of_size, lacks)) =
    let parts = line_unique input it rest line after begins split in
    let (id, kind, content, is, len) = size_unique line it size parts.0 of_size in
    no_newline_lacks size content rest after len (object_content it id kind content rest after is parts.1) lacks

no_records_of_fault : (input : List ℕ) (before records : List RecordView) (rest : List ℕ) (cause : RecordFault) → BeginsWithRecords input before rest
    → rest ≢ [] → HasRecordFault rest cause → DecodesToRecords input records → ⊥
no_records_of_fault input [] [] rest cause begins filled faulty decodes = filled (sym begins ∙ decodes)
no_records_of_fault input [] (it ∷ records) rest cause begins filled faulty (after, first, more) =
    no_fault_of_record rest it after cause (subst (λ (bytes : List ℕ). BeginsWithRecord bytes it after) begins first) faulty
no_records_of_fault input (it ∷ before) [] rest cause (after, first, more) filled faulty decodes =
    no_record_of_nil it after (subst (λ (bytes : List ℕ). BeginsWithRecord bytes it after) decodes first)
no_records_of_fault input (it ∷ before) (it' ∷ records) rest cause (after, first, more) filled faulty (after', first', more') =
    let same = record_unique input it it' after after' first first' in
    no_records_of_fault after before records rest cause more filled faulty (subst (λ (bytes : List ℕ). DecodesToRecords bytes records) (sym same.1) more')

pub no_records_of_malformed : (input : List ℕ) (offset : ℕ) (cause : RecordFault) (records : List RecordView)
    → IsBatchError input (batch.Malformed offset cause) → DecodesToRecords input records → ⊥
no_records_of_malformed input offset cause records (before, rest, begins, len, filled, faulty) decodes =
    no_records_of_fault input before records rest cause begins filled faulty decodes
