use Rattle.gixobj_hash.proofs.EncodedHex.{is_id_hex_of_decodes, encode_lower_is_lower_hex, encode_id_hex_decodes}
use Rattle.gixobj_hash.specs.Hash.{encode_id_hex, id_bytes}
use Rattle.gixobj_hash.proofs.laws.hex_round_trips.Goals as goal

pub returns-clause-lower_case : goal.returns-clause-lower_case
returns-clause-lower_case c = λ id proper. encode_lower_is_lower_hex (id_bytes id) proper.1

pub returns-clause-is_hex : goal.returns-clause-is_hex
returns-clause-is_hex c = λ id proper. is_id_hex_of_decodes (encode_id_hex id) id (encode_id_hex_decodes id proper)

pub returns-clause-same_id : goal.returns-clause-same_id
returns-clause-same_id c = encode_id_hex_decodes
