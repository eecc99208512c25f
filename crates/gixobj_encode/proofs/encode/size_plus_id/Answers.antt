use Rattle.std.proofs.Common.{arith}
use Rattle.std.proofs.lemmas.Grind.{common_steps}
use Rattle.gixobj_encode.proofs.FieldWrites.{encode_id_field_len}
use Rattle.gixobj_encode.proofs.encode.size_plus_id.Goals as goal

pub returns : goal.returns
returns c = grind (arith, common_steps, encode_id_field_len)
