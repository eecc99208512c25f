use Rattle.gixobj_hash.proofs.HexCase.{encode_id_hex_lower_case}
use Rattle.gixobj_hash.proofs.EncodedHex.{encode_id_hex_of_decoded}
use Rattle.gixobj_hash.proofs.laws.hex_reencodes_identically.Goals as goal

pub returns-clause-lower_case : goal.returns-clause-lower_case
returns-clause-lower_case c = encode_id_hex_lower_case

pub returns-clause-same_bytes : goal.returns-clause-same_bytes
returns-clause-same_bytes c = encode_id_hex_of_decoded
