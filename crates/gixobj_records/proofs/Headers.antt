-- A header has no newline, decodes uniquely, and has no fault: for `RecordLists` and `Faults`.
use Rattle.std.proofs.Common.{◌≡◌, ◌≢◌, ℕ, List, ◌∷◌, ◌++◌, ◌∙◌, ap, arith, subst, sym}
use Rattle.std.proofs.lemmas.Fmt.{decimal_injective}
use Rattle.std.specs.Prelude.{codes, decimal}
use Rattle.gixobj_hash.proofs.Headers.{kind_keyword_injective}
use Rattle.gixobj_hash.proofs.Splits.{no_split_of_byte_free, split_parts_unique}
use Rattle.gixobj_hash.specs.ByteStrings.{IsByteFree}
use Rattle.gixobj_hash.specs.Hash.{IsId, encode_id_hex}
use Rattle.gixobj_hash.specs.Kind.{kind_name}
use Rattle.gixobj_hash.specs.declared.hash.object_id.ObjectId.{ObjectId}
use Rattle.gixobj_hash.specs.declared.kind.Kind.{Kind}
use Rattle.gixobj_records.specs.Headers.{HasHeaderFault, IsHeader, IsValid, encode_header, id_field, kind_and_size}
use Rattle.gixobj_records.specs.declared.header.Header.{Header}
use Rattle.gixobj_records.specs.declared.header.Header.TheVariants as header
use Rattle.gixobj_records.specs.declared.header.HeaderFault.{HeaderFault}
use Rattle.gixobj_records.specs.declared.header.HeaderFault.TheVariants as fault
use Rattle.gixobj_records.proofs.Fields.{byte_free_append, byte_free_cons, decimal_is_newline_free, encode_id_hex_injective, id_hex_is_newline_free}
use Rattle.gixobj_records.proofs.Fields.{id_hex_is_space_free, kind_name_is_newline_free, kind_name_is_space_free, missing_is_newline_free}
use Rattle.gixobj_records.proofs.Fields.{missing_is_space_free}

space_ne_newline : (let byte : ℕ = 32 in byte ≢ 10)
space_ne_newline same = omega (arith, same)

id_field_is_newline_free : (id : ObjectId) (rest : List ℕ) → IsId id → IsByteFree 10 rest → IsByteFree 10 (id_field id rest)
id_field_is_newline_free id rest proper free =
    byte_free_append 10 (encode_id_hex id) (32 ∷ rest) (id_hex_is_newline_free id proper) (byte_free_cons 10 32 rest space_ne_newline free)

pub header_is_newline_free : (it : Header) → IsValid it → IsByteFree 10 (encode_header it)
header_is_newline_free (header.Object id kind size) valid =
    id_field_is_newline_free id (kind_and_size kind size) valid.id
    (byte_free_append 10 (kind_name kind) (32 ∷ decimal size) (kind_name_is_newline_free kind)
    (byte_free_cons 10 32 (decimal size) space_ne_newline (decimal_is_newline_free size valid.fits)))
header_is_newline_free (header.Missing id) valid = id_field_is_newline_free id (codes "missing") valid.id missing_is_newline_free

-- ---- parts

pub id_field_unique : (id other : ObjectId) (a b : List ℕ) → IsId id → IsId other → id_field id a ≡ id_field other b → (id ≡ other) × (a ≡ b)
id_field_unique id other a b proper proper' same =
    let parts = split_parts_unique 32 (encode_id_hex id) a (encode_id_hex other) b (id_hex_is_space_free id proper) (id_hex_is_space_free other proper') same in
    (encode_id_hex_injective id other proper proper' parts.0, parts.1)

pub kind_field_unique : (kind other : Kind) (a b : List ℕ) → kind_name kind ++ 32 ∷ a ≡ kind_name other ++ 32 ∷ b → (kind ≡ other) × (a ≡ b)
kind_field_unique kind other a b same =
    let parts = split_parts_unique 32 (kind_name kind) a (kind_name other) b (kind_name_is_space_free kind) (kind_name_is_space_free other) same in
    (kind_keyword_injective kind other parts.0, parts.1)

pub missing_is_no_kind_field : (kind : Kind) (rest : List ℕ) → codes "missing" ≢ kind_name kind ++ 32 ∷ rest
missing_is_no_kind_field kind rest same =
    no_split_of_byte_free 32 (kind_name kind) rest (let P : List ℕ → Type 0 = IsByteFree 32 in subst P same missing_is_space_free)

-- ---- headers

pub encode_header_injective : (it other : Header) → IsValid it → IsValid other → encode_header it ≡ encode_header other → it ≡ other
encode_header_injective (header.Object id kind size) (header.Object id' kind' size') valid valid' same =
    let fields = id_field_unique id id' (kind_and_size kind size) (kind_and_size kind' size') valid.id valid'.id same in
    let kinds = kind_field_unique kind kind' (decimal size) (decimal size') fields.1 in
    cc (fields.0, kinds.0, decimal_injective size size' valid.fits valid'.fits kinds.1)
encode_header_injective (header.Object id kind size) (header.Missing id') valid valid' same =
    let fields = id_field_unique id id' (kind_and_size kind size) (codes "missing") valid.id valid'.id same in
    absurd (missing_is_no_kind_field kind (decimal size) (sym fields.1))
encode_header_injective (header.Missing id) (header.Object id' kind size) valid valid' same =
    let fields = id_field_unique id id' (codes "missing") (kind_and_size kind size) valid.id valid'.id same in
    absurd (missing_is_no_kind_field kind (decimal size) fields.1)
encode_header_injective (header.Missing id) (header.Missing id') valid valid' same =
    let fields = id_field_unique id id' (codes "missing") (codes "missing") valid.id valid'.id same in
    ap header.Missing fields.0

-- ---- faults

pub no_fault_of_header : (line : List ℕ) (it : Header) (cause : HeaderFault) → IsHeader line it → HasHeaderFault line cause → ⊥
no_fault_of_header line (header.Object id kind size) fault.InvalidId is lacks = lacks id (kind_and_size kind size) is.valid.id is.encoded
no_fault_of_header line (header.Missing id) fault.InvalidId is lacks = lacks id (codes "missing") is.valid.id is.encoded
no_fault_of_header line (header.Object id kind size) fault.UnknownKind is (other, after, proper, joined, not_missing, no_kind) =
    let fields = id_field_unique id other (kind_and_size kind size) after is.valid.id proper (sym is.encoded ∙ joined) in
    no_kind kind (decimal size) (sym fields.1)
no_fault_of_header line (header.Missing id) fault.UnknownKind is (other, after, proper, joined, not_missing, no_kind) =
    let fields = id_field_unique id other (codes "missing") after is.valid.id proper (sym is.encoded ∙ joined) in
    not_missing (sym fields.1)
no_fault_of_header line (header.Object id kind size) fault.InvalidSize is (other, kind', digits, proper, joined, no_size) =
    let fields = id_field_unique id other (kind_and_size kind size) (kind_name kind' ++ 32 ∷ digits) is.valid.id proper (sym is.encoded ∙ joined) in
    let kinds = kind_field_unique kind kind' (decimal size) digits fields.1 in
    no_size size is.valid.fits (sym kinds.1)
no_fault_of_header line (header.Missing id) fault.InvalidSize is (other, kind', digits, proper, joined, no_size) =
    let fields = id_field_unique id other (codes "missing") (kind_name kind' ++ 32 ∷ digits) is.valid.id proper (sym is.encoded ∙ joined) in
    missing_is_no_kind_field kind' digits fields.1
