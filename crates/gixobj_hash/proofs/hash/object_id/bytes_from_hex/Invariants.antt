-- Decoding all digits yields the decoded bytes and then those of the remaining digits.
use Rattle.std.proofs.Common.{◌≡◌, ◌*◌, length, take, drop}
use Rattle.hex.specs.Hex.{decode_pairs}
use Rattle.hex.proofs.Pairs.{prepend}
use Rattle.gixobj_hash.proofs.hash.object_id.bytes_from_hex.Given as goal

abbrev pub invariant-bytes : goal.invariant-bytes
invariant-bytes g l = (length l.bytes ≡ g.row.N)
    × (decode_pairs 0 l.hex ≡ prepend (take l.i l.bytes) (decode_pairs (2 * l.i) (drop (2 * l.i) l.hex)))
