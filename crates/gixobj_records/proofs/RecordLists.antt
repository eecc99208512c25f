-- Bytes decode to at most one list of records, and a list grows by the record that follows it; the law
-- `records_decode_uniquely`, `decode_records` and `Faults` use it.
use Rattle.std.proofs.Common.{◌≡◌, ◌<◌, ℕ, List, [], ◌∷◌, ◌++◌, ◌∙◌, ap, append_assoc, arith, length, length-append, map, refl, subst, sym}
use Rattle.std.proofs.lemmas.List.{map-append}
use Rattle.gixobj_hash.proofs.Splits.{split_parts_unique}
use Rattle.gixobj_hash.specs.declared.hash.object_id.ObjectId.{ObjectId}
use Rattle.gixobj_hash.specs.declared.kind.Kind.{Kind}
use Rattle.gixobj_records.specs.Headers.{encode_header}
use Rattle.gixobj_records.specs.Records.{BeginsWithRecord, BeginsWithRecords, DecodesToRecords, RecordView, encode_content, encode_record, header_of, missing}
use Rattle.gixobj_records.specs.Records.{object, record_view}
use Rattle.gixobj_records.specs.declared.header.Header.TheVariants as header
use Rattle.gixobj_records.specs.declared.records.Record.{Record}
use Rattle.gixobj_records.proofs.Headers.{encode_header_injective, header_is_newline_free}

-- two lists of one length that begin equal lists are equal, and so are the rests
pub prefix_of_len_unique : (a x b y : List ℕ) → length a ≡ length b → a ++ x ≡ b ++ y → (a ≡ b) × (x ≡ y)
prefix_of_len_unique [] x [] y len same = (refl, same)
prefix_of_len_unique [] x (second ∷ b) y len same = absurd (omega (arith, len))
prefix_of_len_unique (first ∷ a) x [] y len same = absurd (omega (arith, len))
prefix_of_len_unique (first ∷ a) x (second ∷ b) y len same =
    let tails : a ++ x ≡ b ++ y = cc same in
    let shorter : length a ≡ length b = omega (arith, len) in
    let rest = prefix_of_len_unique a x b y shorter tails in
    let heads : first ≡ second = cc same in
    (cc (heads, rest.0), rest.1)

-- the bytes of a record and the rest, split at the newline of the header
pub record_joined : (it : RecordView) (rest : List ℕ) → encode_record it ++ rest ≡ encode_header (header_of it) ++ 10 ∷ (encode_content it ++ rest)
record_joined it rest = append_assoc (encode_header (header_of it)) (10 ∷ encode_content it) rest

content_joined : (content rest : List ℕ) → (content ++ 10 ∷ []) ++ rest ≡ content ++ 10 ∷ rest
content_joined content rest = append_assoc content (10 ∷ []) rest

contents_unique : (content other rest rest' : List ℕ) → length content ≡ length other
    → (content ++ 10 ∷ []) ++ rest ≡ (other ++ 10 ∷ []) ++ rest' → (content ≡ other) × (rest ≡ rest')
contents_unique content other rest rest' len same =
    let parts = prefix_of_len_unique content (10 ∷ rest) other (10 ∷ rest') len
    (sym (content_joined content rest) ∙ same ∙ content_joined other rest') in
    let rests : rest ≡ rest' = cc parts.1 in
    (parts.0, rests)

same_size : (id id' : ObjectId) (kind kind' : Kind) (n m : ℕ) → header.Object id kind n ≡ header.Object id' kind' m → n ≡ m
same_size id id' kind kind' n m same = cc same

parts_unique : (it other : RecordView) (rest rest' : List ℕ) → header_of it ≡ header_of other
    → encode_content it ++ rest ≡ encode_content other ++ rest' → (it ≡ other) × (rest ≡ rest')
parts_unique (object id kind content) (object id' kind' content') rest rest' headers contents =
    let parts = contents_unique content content' rest rest' (same_size id id' kind kind' (length content) (length content') headers) contents in
    let ids : id ≡ id' = cc headers in
    let kinds : kind ≡ kind' = cc headers in
    (cc (ids, kinds, parts.0), parts.1)
parts_unique (object id kind content) (missing id') rest rest' headers contents = cc headers
parts_unique (missing id) (object id' kind content) rest rest' headers contents = cc headers
parts_unique (missing id) (missing id') rest rest' headers contents =
    let ids : id ≡ id' = cc headers in
    (ap missing ids, contents)

pub record_unique : (input : List ℕ) (it it' : RecordView) (rest rest' : List ℕ) → BeginsWithRecord input it rest → BeginsWithRecord input it' rest'
    → (it ≡ it') × (rest ≡ rest')
record_unique input it it' rest rest' first second =
    let parts = split_parts_unique 10 (encode_header (header_of it)) (encode_content it ++ rest) (encode_header (header_of it')) (encode_content it' ++ rest')
    (header_is_newline_free (header_of it) first.valid) (header_is_newline_free (header_of it') second.valid)
    (sym (record_joined it rest) ∙ sym first.joined ∙ second.joined ∙ record_joined it' rest') in
    parts_unique it it' rest rest' (encode_header_injective (header_of it) (header_of it') first.valid second.valid parts.0) parts.1

-- ---- lists

pub no_record_of_nil : (it : RecordView) (rest : List ℕ) → BeginsWithRecord [] it rest → ⊥
no_record_of_nil it rest begins =
    omega (arith, ap length (begins.joined ∙ record_joined it rest), length-append (encode_header (header_of it)) (10 ∷ (encode_content it ++ rest)))

pub records_unique : (input : List ℕ) (records records' : List RecordView) → DecodesToRecords input records → DecodesToRecords input records'
    → records ≡ records'
records_unique input [] [] first second = refl
records_unique input [] (it ∷ records') first (after, begins, rest) =
    absurd (no_record_of_nil it after (subst (λ (bytes : List ℕ). BeginsWithRecord bytes it after) first begins))
records_unique input (it ∷ records) [] (after, begins, rest) second =
    absurd (no_record_of_nil it after (subst (λ (bytes : List ℕ). BeginsWithRecord bytes it after) second begins))
records_unique input (it ∷ records) (it' ∷ records') (after, begins, rest) (after', begins', rest') =
    let same = record_unique input it it' after after' begins begins' in
    let more = records_unique after' records records' (subst (λ (bytes : List ℕ). DecodesToRecords bytes records) same.1 rest) rest' in
    cc (same.0, more)

-- the records go on with the one at the beginning of the rest
pub begins_with_records_snoc : (input : List ℕ) (records : List RecordView) (rest after : List ℕ) (it : RecordView) → BeginsWithRecords input records rest
    → BeginsWithRecord rest it after → BeginsWithRecords input (records ++ it ∷ []) after
begins_with_records_snoc input [] rest after it before begins =
    (after, subst (λ (bytes : List ℕ). BeginsWithRecord bytes it after) (sym before) begins, refl)
begins_with_records_snoc input (first ∷ records) rest after it (next, starts, before) begins =
    (next, starts, begins_with_records_snoc next records rest after it before begins)

-- the list of records grows by the one at the beginning of the rest
pub begins_with_records_push : (input : List ℕ) (records pushed : List Record) (rest after : List ℕ) (it : Record) → pushed ≡ records ++ it ∷ []
    → BeginsWithRecords input (map record_view records) rest → BeginsWithRecord rest (record_view it) after
    → BeginsWithRecords input (map record_view pushed) after
begins_with_records_push input records pushed rest after it same before begins =
    let views : map record_view pushed ≡ map record_view records ++ record_view it ∷ [] =
    ap (map record_view) same ∙ map-append record_view records (it ∷ []) in
    subst (λ (list : List RecordView). BeginsWithRecords input list after) (sym views)
    (begins_with_records_snoc input (map record_view records) rest after (record_view it) before begins)

pub record_rest_lt : (input rest : List ℕ) (it : RecordView) → BeginsWithRecord input it rest → length rest < length input
record_rest_lt input rest it begins =
    omega (
      arith,
      ap length (begins.joined ∙ record_joined it rest),
      length-append (encode_header (header_of it)) (10 ∷ (encode_content it ++ rest)),
      length-append (encode_content it) rest,
    )
