use Rattle.std.proofs.Common.{ap, arith, sym, ◌∙◌}
use Rattle.gixobj_hash.specs.Hash.{encode_id_hex}
use Rattle.gixobj_records.proofs.Fields.{id_of_encoded, is_id_hex_of_encoded}
use Rattle.gixobj_records.proofs.header.decode_id.Goals as goal

pub returns-in_default-clause-none : goal.returns-in_default-clause-none
returns-in_default-clause-none c = λ id proper same.
    grind (arith, c.from_hex.ensures.accepts.1 (is_id_hex_of_encoded c.args.hex.now id proper same))

pub returns-else-are_equal-clause-none : goal.returns-else-are_equal-clause-none
returns-else-are_equal-clause-none c = λ id proper same.
    let ids = id_of_encoded c.args.hex.now c.in-Some.id id c.in-Some.ensures.value proper same in
    grind (arith, c.are_equal.ensures.1 (c.as_bytes.ensures.value ∙ c.hex_to_buf.ensures.encoded ∙ ap encode_id_hex ids ∙ sym same))
