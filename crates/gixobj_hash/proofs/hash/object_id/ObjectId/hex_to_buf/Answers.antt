-- The digits are ASCII, and therefore UTF-8.
use Rattle.std.proofs.lemmas.Str.{IsUtf8-from_ascii}
use Rattle.std.specs.Str.{IsUtf8}
use Rattle.hex.proofs.HexLemmas.{IsAscii-encode_with}
use Rattle.hex.specs.Hex.{lower_digits}
use Rattle.gixobj_hash.proofs.HexDigits.{lower_digits_are_ascii}
use Rattle.gixobj_hash.specs.Hash.{encode_id_hex}
use Rattle.gixobj_hash.proofs.hash.object_id.ObjectId.hex_to_buf.Goals as goal

pub unreachable-requires : goal.unreachable-requires
unreachable-requires c =
    let input = encode_id_hex c.args.self.now in
    let readable : IsUtf8 input = IsUtf8-from_ascii input (IsAscii-encode_with lower_digits _ lower_digits_are_ascii) in
    (c.in-Err.ensures).cases.0 (rw c.hex_bytes.ensures.encoded readable)
