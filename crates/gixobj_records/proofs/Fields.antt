-- The fields of a header have no space and no newline, and each decodes uniquely: for `Headers` and the decoders of
-- headers.
use Rattle.std.proofs.Common.{◌≡◌, ◌≢◌, ◌<◌, ◌^◌, ℕ, List, [], ◌∷◌, ◌++◌, ◌∙◌, false, true, ap, arith, refl, subst, sym}
use Rattle.std.proofs.lemmas.Bool.{true≢false}
use Rattle.std.proofs.lemmas.Fmt.{decimal_is_IsNumeral}
use Rattle.std.proofs.lemmas.List.Elements.{All-cons, All-head, All-nil, All-tail}
use Rattle.std.specs.Char.{digit_value}
use Rattle.std.specs.List.{AllPass}
use Rattle.std.specs.Prelude.{codes, decimal}
use Rattle.std.specs.Str.Parse.{AllDigits, IsNumeral, digits_value}
use Rattle.gixobj_hash.proofs.EncodedHex.{encode_id_hex_decodes, encode_lower_is_lower_hex, is_id_hex_of_decodes}
use Rattle.gixobj_hash.proofs.HexIds.{decoded_id_unique}
use Rattle.gixobj_hash.proofs.Splits.{byte_free_of_all_pass}
use Rattle.gixobj_hash.specs.ByteStrings.{IsByteFree}
use Rattle.gixobj_hash.specs.Hash.{DecodesToId, IsId, IsIdHex, encode_id_hex, id_bytes, is_lower_hex_digit}
use Rattle.gixobj_hash.specs.Kind.{kind_name}
use Rattle.gixobj_hash.specs.declared.hash.object_id.ObjectId.{ObjectId}
use Rattle.gixobj_hash.specs.declared.kind.Kind.{Kind}
use Rattle.gixobj_hash.specs.declared.kind.Kind.TheVariants.{Blob, Commit, Tag, Tree}

-- ---- ids

pub is_id_hex_of_encoded : (hex : List ℕ) (id : ObjectId) → IsId id → hex ≡ encode_id_hex id → IsIdHex hex
is_id_hex_of_encoded hex id proper same =
    subst IsIdHex (sym same) (is_id_hex_of_decodes (encode_id_hex id) id (encode_id_hex_decodes id proper))

-- hex in lower case decodes to its id
pub id_of_encoded : (hex : List ℕ) (id other : ObjectId) → DecodesToId hex id → IsId other → hex ≡ encode_id_hex other → id ≡ other
id_of_encoded hex id other decodes proper same =
    let read : DecodesToId hex other = subst (λ (it : List ℕ). DecodesToId it other) (sym same) (encode_id_hex_decodes other proper) in
    decoded_id_unique hex id decodes ∙ sym (decoded_id_unique hex other read)

pub encode_id_hex_injective : (id other : ObjectId) → IsId id → IsId other → encode_id_hex id ≡ encode_id_hex other → id ≡ other
encode_id_hex_injective id other proper proper' same =
    id_of_encoded (encode_id_hex id) id other (encode_id_hex_decodes id proper) proper' same

byte_free_of_lower_hex : (byte : ℕ) (hex : List ℕ) → is_lower_hex_digit byte ≡ false → AllPass is_lower_hex_digit hex → IsByteFree byte hex
byte_free_of_lower_hex byte [] other lower = All-nil (λ it. it ≢ byte)
byte_free_of_lower_hex byte (first ∷ hex) other lower =
    let digit : is_lower_hex_digit first ≡ true = All-head (λ it. is_lower_hex_digit it ≡ true) first hex lower in
    let differs : first ≢ byte = λ same. true≢false (sym digit ∙ ap is_lower_hex_digit same ∙ other) in
    All-cons (λ it. it ≢ byte) first hex differs (byte_free_of_lower_hex byte hex other (All-tail (λ it. is_lower_hex_digit it ≡ true) first hex lower))

pub id_hex_is_space_free : (id : ObjectId) → IsId id → IsByteFree 32 (encode_id_hex id)
id_hex_is_space_free id proper = byte_free_of_lower_hex 32 (encode_id_hex id) refl (encode_lower_is_lower_hex (id_bytes id) proper.1)

pub id_hex_is_newline_free : (id : ObjectId) → IsId id → IsByteFree 10 (encode_id_hex id)
id_hex_is_newline_free id proper = byte_free_of_lower_hex 10 (encode_id_hex id) refl (encode_lower_is_lower_hex (id_bytes id) proper.1)

-- ---- kinds

pub kind_name_is_space_free : (kind : Kind) → IsByteFree 32 (kind_name kind)
kind_name_is_space_free Tree = byte_free_of_all_pass 32 (kind_name Tree) refl
kind_name_is_space_free Blob = byte_free_of_all_pass 32 (kind_name Blob) refl
kind_name_is_space_free Commit = byte_free_of_all_pass 32 (kind_name Commit) refl
kind_name_is_space_free Tag = byte_free_of_all_pass 32 (kind_name Tag) refl

pub kind_name_is_newline_free : (kind : Kind) → IsByteFree 10 (kind_name kind)
kind_name_is_newline_free Tree = byte_free_of_all_pass 10 (kind_name Tree) refl
kind_name_is_newline_free Blob = byte_free_of_all_pass 10 (kind_name Blob) refl
kind_name_is_newline_free Commit = byte_free_of_all_pass 10 (kind_name Commit) refl
kind_name_is_newline_free Tag = byte_free_of_all_pass 10 (kind_name Tag) refl

pub missing_is_space_free : IsByteFree 32 (codes "missing")
missing_is_space_free = byte_free_of_all_pass 32 (codes "missing") refl

pub missing_is_newline_free : IsByteFree 10 (codes "missing")
missing_is_newline_free = byte_free_of_all_pass 10 (codes "missing") refl

-- ---- sizes

decimal_digit_ne_newline : (byte : ℕ) → digit_value byte < 10 → byte ≢ 10
decimal_digit_ne_newline byte digit newline =
    let value : digit_value byte ≡ 36 = ap digit_value newline in
    omega arith

pub numeral_of_decimal : (digits : List ℕ) (size : ℕ) → size < 2 ^ 64 → digits ≡ decimal size → IsNumeral 10 digits
numeral_of_decimal digits size fits same = subst (IsNumeral 10) (sym same) (decimal_is_IsNumeral size fits).0

pub digits_value_of_decimal : (digits : List ℕ) (size : ℕ) → size < 2 ^ 64 → digits ≡ decimal size → digits_value 10 digits ≡ size
digits_value_of_decimal digits size fits same = ap (digits_value 10) same ∙ (decimal_is_IsNumeral size fits).1

newline_free_of_digits : (bytes : List ℕ) → AllDigits 10 bytes → IsByteFree 10 bytes
newline_free_of_digits [] digits = All-nil (λ it. it ≢ 10)
newline_free_of_digits (byte ∷ bytes) digits =
    All-cons (λ it. it ≢ 10) byte bytes (decimal_digit_ne_newline byte digits.0) (newline_free_of_digits bytes digits.1)

pub decimal_is_newline_free : (size : ℕ) → size < 2 ^ 64 → IsByteFree 10 (decimal size)
decimal_is_newline_free size fits = newline_free_of_digits (decimal size) (decimal_is_IsNumeral size fits).0.1

-- ---- parts

pub byte_free_append : (byte : ℕ) (a b : List ℕ) → IsByteFree byte a → IsByteFree byte b → IsByteFree byte (a ++ b)
byte_free_append byte [] b first then = then
byte_free_append byte (x ∷ a) b first then = All-cons (λ it. it ≢ byte) x (a ++ b) (All-head (λ it. it ≢ byte) x a first)
    (byte_free_append byte a b (All-tail (λ it. it ≢ byte) x a first) then)

pub byte_free_cons : (byte first : ℕ) (bytes : List ℕ) → first ≢ byte → IsByteFree byte bytes → IsByteFree byte (first ∷ bytes)
byte_free_cons byte first bytes differs free = All-cons (λ it. it ≢ byte) first bytes differs free
