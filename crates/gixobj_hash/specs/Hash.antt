-- Object ids: SHA-1 and SHA-256 digests (FIPS 180-4), their bytes and their hex.
pub mod Borrowed
pub mod Hasher
pub mod Hex
pub mod Order
pub mod OrderLaws
use Rattle.std.specs.Prelude.{◌≡◌, ℕ, List, ◌++◌, ◌*◌, ◌⊎◌, ◌||◌, ◌&&◌, ◌==◌, nat_le, Bool, Ok, All, length, replicate}
use Rattle.std.specs.Char.{is_ascii_digit}
use Rattle.std.specs.List.{AllPass}
use Rattle.sha1.specs.Sha1.{sha1}
use Rattle.sha2.specs.Sha256.{sha256}
use Rattle.hex.specs.Hex.{IsBytes, decode_of, encode_lower, is_hex_digit}
use Rattle.gixobj_hash.specs.declared.hash.kind.Kind.{Kind}
use Rattle.gixobj_hash.specs.declared.hash.kind.Kind.TheVariants as hash
use Rattle.gixobj_hash.specs.declared.hash.object_id.ObjectId.{ObjectId}
use Rattle.gixobj_hash.specs.declared.hash.object_id.ObjectId.TheVariants as id
use Rattle.gixobj_hash.specs.declared.kind.Kind as object
use Rattle.gixobj_hash.specs.Encode.{encode_loose_header}

-- the length of a digest, in bytes
abbrev pub hash_len : Kind → ℕ
hash_len hash.Sha1 = 20
hash_len hash.Sha256 = 32

-- the length is that of some digest: 20 or 32 bytes
abbrev pub is_id_length : ℕ → Bool
is_id_length n = n == 20 || n == 32

-- the digest of a message
abbrev pub digest_of : Kind → List ℕ → List ℕ
digest_of hash.Sha1 message = sha1 message
digest_of hash.Sha256 message = sha256 message

-- the hash function of an id
abbrev pub id_kind : ObjectId → Kind
id_kind (id.Sha1 bytes) = hash.Sha1
id_kind (id.Sha256 bytes) = hash.Sha256

-- the bytes of an id
abbrev pub id_bytes : ObjectId → List ℕ
id_bytes (id.Sha1 bytes) = bytes
id_bytes (id.Sha256 bytes) = bytes

-- the id of this hash function with these bytes
abbrev pub id_from : Kind → List ℕ → ObjectId
id_from hash.Sha1 bytes = id.Sha1 bytes
id_from hash.Sha256 bytes = id.Sha256 bytes

-- an id of a program: its length is that of its hash function, and its elements are bytes
abbrev pub IsId : ObjectId → Type 0
IsId it = (length (id_bytes it) ≡ hash_len (id_kind it)) × IsBytes (id_bytes it)

-- the id of an object: the digest of its loose header and its content
abbrev pub id_of : Kind → object.Kind → List ℕ → ObjectId
id_of hash kind content = id_from hash (digest_of hash (encode_loose_header kind (length content) ++ content))

-- the null id: all bytes are zero
abbrev pub null_id : Kind → ObjectId
null_id kind = id_from kind (replicate (hash_len kind) 0)

-- all bytes of the id are zero
abbrev pub IsNull : ObjectId → Type 0
IsNull it = All (λ byte. byte ≡ 0) (id_bytes it)

-- the hex of an id, in lower case
abbrev pub encode_id_hex : ObjectId → List ℕ
encode_id_hex it = encode_lower (id_bytes it)

-- a hex digit in lower case: `0` to `9` or `a` to `f`
abbrev pub is_lower_hex_digit : ℕ → Bool
is_lower_hex_digit byte = is_ascii_digit byte || (nat_le 97 byte && nat_le byte 102)

-- the hex of an id: 40 or 64 hex digits, of either case
abbrev pub IsIdHex : List ℕ → Type 0
IsIdHex input = ((length input ≡ 40) ⊎ (length input ≡ 64)) × AllPass is_hex_digit input

-- the input is the hex of the id, in either case
pub record DecodesToId (input : List ℕ) (it : ObjectId) : Type 0 where
  pub len : length input ≡ 2 * hash_len (id_kind it)
  pub digits : decode_of input ≡ Ok (id_bytes it)
