use Rattle.std.proofs.Common.{ap, length, subst, sym, ◌∙◌}
use Rattle.gixobj_hash.specs.Hash.{encode_id_hex}
use Rattle.hex.specs.Hex.{IsBytes}
use Rattle.gixobj_codec.proofs.OwnedFields.{digits_are_newline_free}
use Rattle.gixobj_codec.proofs.one_line.id_has_one_line.Goals as goal

pub returns : goal.returns
returns c =
    let value = c.as_bytes.ensures.value in
    digits_are_newline_free (encode_id_hex c.args.id.now)
    (c.hex_round_trips.ensures.lower_case c.args.id.now (ap length (sym value) ∙ c.as_bytes.ensures.len, subst IsBytes value c.are_bytes.ensures))
