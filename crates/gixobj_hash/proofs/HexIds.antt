-- Hex decodes to exactly one id.
use Rattle.std.proofs.Common.{◌≡◌, ℕ, ◌==◌, All, List, [], ◌∷◌, map, inl, inr, length, if◌then◌else◌, Ok, Result, refl, subst, sym, arith}
use Rattle.std.proofs.lemmas.List.Elements.{All-head, All-tail}
use Rattle.std.specs.List.{AllZip}
use Rattle.std.specs.Result.{result_unwrap_or}
use Rattle.hex.proofs.HexLemmas.{decode_of-digits}
use Rattle.hex.specs.Hex.{decode_of}
use Rattle.hex.specs.declared.error.FromHexError.{FromHexError}
use Rattle.gixobj_hash.specs.Hash.{IsIdHex, DecodesToId, id_from}
use Rattle.gixobj_hash.specs.declared.hash.kind.Kind.{Kind}
use Rattle.gixobj_hash.specs.declared.hash.kind.Kind.TheVariants as hash
use Rattle.gixobj_hash.specs.declared.hash.object_id.ObjectId.{ObjectId}
use Rattle.gixobj_hash.specs.declared.hash.object_id.ObjectId.TheVariants.{Sha1, Sha256}
use Rattle.gixobj_hash.specs.Hash.Hex.{IsIdHexOfKind, IsIdHexOfItsKind, kind_of_hex, decoded_id}

id_from_decoded_is_sha1 : (n : ℕ) (read : Result (List ℕ) FromHexError) (bytes : List ℕ) → n ≡ 40 → read ≡ Ok bytes
    → id_from (if n == 40 then hash.Sha1 else hash.Sha256) (result_unwrap_or read []) ≡ Sha1 bytes
id_from_decoded_is_sha1 n read bytes short ok = rw (short, ok) refl

id_from_decoded_is_sha256 : (n : ℕ) (read : Result (List ℕ) FromHexError) (bytes : List ℕ) → n ≡ 64 → read ≡ Ok bytes
    → id_from (if n == 40 then hash.Sha1 else hash.Sha256) (result_unwrap_or read []) ≡ Sha256 bytes
id_from_decoded_is_sha256 n read bytes long ok = rw (long, ok) refl

pub decoded_id_unique : (content : List ℕ) (id : ObjectId) → DecodesToId content id → id ≡ decoded_id content
decoded_id_unique content (Sha1 bytes) spells = sym (id_from_decoded_is_sha1 (length content) (decode_of content) bytes spells.len spells.digits)
decoded_id_unique content (Sha256 bytes) spells = sym (id_from_decoded_is_sha256 (length content) (decode_of content) bytes spells.len spells.digits)

pub decoded_id_decodes : (content : List ℕ) → IsIdHex content → DecodesToId content (decoded_id content)
decoded_id_decodes content (inl short, digits) =
    let read = decode_of-digits content (omega arith) digits in
    subst (DecodesToId content) (sym (id_from_decoded_is_sha1 (length content) (decode_of content) read.0 short read.1))
    (record { len = short; digits = read.1 })
decoded_id_decodes content (inr long, digits) =
    let read = decode_of-digits content (omega arith) digits in
    subst (DecodesToId content) (sym (id_from_decoded_is_sha256 (length content) (decode_of content) read.0 long read.1))
    (record { len = long; digits = read.1 })

pub is_id_hex_of_its_kind : (content : List ℕ) → IsIdHex content → IsIdHexOfItsKind content
is_id_hex_of_its_kind content (inl short, digits) = (rw short refl, digits)
is_id_hex_of_its_kind content (inr long, digits) = (rw long refl, digits)

pub is_id_hex_of_kind : (content : List ℕ) → IsIdHexOfItsKind content → IsIdHex content
is_id_hex_of_kind content (len, digits) = (grind arith, digits)

pub all_zip_decodes_to_id : (encodings : List (List ℕ)) (ids : List ObjectId) → All IsIdHex encodings → ids ≡ map decoded_id encodings
    → AllZip DecodesToId encodings ids
all_zip_decodes_to_id [] ids all same = subst (AllZip DecodesToId []) (sym same) tt
all_zip_decodes_to_id (content ∷ encodings) ids all same =
    let rest = all_zip_decodes_to_id encodings (map decoded_id encodings) (All-tail IsIdHex content encodings all) refl in
    subst (AllZip DecodesToId (content ∷ encodings)) (sym same) (decoded_id_decodes content (All-head IsIdHex content encodings all), rest)

pub kind_of_hex_unique : (kind : Kind) (content : List ℕ) → IsIdHexOfKind kind content → kind ≡ kind_of_hex content
kind_of_hex_unique hash.Sha1 content (len, digits) = rw len refl
kind_of_hex_unique hash.Sha256 content (len, digits) = rw len refl
