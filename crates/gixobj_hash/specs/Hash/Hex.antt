-- The hex of ids of one hash function, and the id that hex decodes to.
use Rattle.std.specs.Prelude.{◌≡◌, ◌*◌, ℕ, List, [], ◌==◌, if◌then◌else◌, length}
use Rattle.std.specs.List.{AllPass}
use Rattle.std.specs.Result.{result_unwrap_or}
use Rattle.hex.specs.Hex.{decode_of, is_hex_digit}
use Rattle.gixobj_hash.specs.Hash.{hash_len, id_from}
use Rattle.gixobj_hash.specs.declared.hash.kind.Kind.{Kind}
use Rattle.gixobj_hash.specs.declared.hash.kind.Kind.TheVariants as hash
use Rattle.gixobj_hash.specs.declared.hash.object_id.ObjectId.{ObjectId}

-- the hex of an id of this hash function: its number of hex digits, of either case
abbrev pub IsIdHexOfKind : Kind → List ℕ → Type 0
IsIdHexOfKind kind bytes = (length bytes ≡ 2 * hash_len kind) × AllPass is_hex_digit bytes

-- the hash function of the ids with this hex: SHA-1 for 40 digits, and else SHA-256
abbrev pub kind_of_hex : List ℕ → Kind
kind_of_hex bytes = if length bytes == 40 then hash.Sha1 else hash.Sha256

-- the bytes are the hex of an id, of the hash function that their number decides
abbrev pub IsIdHexOfItsKind : List ℕ → Type 0
IsIdHexOfItsKind bytes = IsIdHexOfKind (kind_of_hex bytes) bytes

-- the id that hex decodes to
abbrev pub decoded_id : List ℕ → ObjectId
decoded_id bytes = id_from (kind_of_hex bytes) (result_unwrap_or (decode_of bytes) [])
