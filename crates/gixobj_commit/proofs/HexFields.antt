-- The hex of an id, as it is written.
use Rattle.std.proofs.Common.{◌≡◌, ◌≤◌, ℕ, List, arith, inl, inr, length}
use Rattle.std.specs.Str.{str_to_ascii_lowercase}
use Rattle.gixobj_hash.proofs.HexCase.{encode_id_hex_lower_case}
use Rattle.gixobj_hash.proofs.HexIds.{decoded_id_decodes}
use Rattle.gixobj_hash.specs.Hash.{IsIdHex, encode_id_hex}
use Rattle.gixobj_hash.specs.Hash.Hex.{decoded_id}

pub encode_decoded_id_lower_case : (bytes : List ℕ) → IsIdHex bytes → encode_id_hex (decoded_id bytes) ≡ str_to_ascii_lowercase bytes
encode_decoded_id_lower_case bytes is = encode_id_hex_lower_case bytes (decoded_id bytes) (decoded_id_decodes bytes is)

pub id_hex_len_le : (bytes : List ℕ) → IsIdHex bytes → length bytes ≤ 64
id_hex_len_le bytes (inl forty, digits) = omega arith
id_hex_len_le bytes (inr sixty_four, digits) = omega arith
