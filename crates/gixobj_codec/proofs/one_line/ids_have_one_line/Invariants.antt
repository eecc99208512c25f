use Rattle.std.proofs.Common.{All, take}
use Rattle.gixobj_hash.specs.Hash.{encode_id_hex}
use Rattle.gixobj_hash.specs.Bytes.{newline}
use Rattle.gixobj_hash.specs.ByteStrings.{IsByteFree}
use Rattle.gixobj_codec.proofs.one_line.ids_have_one_line.Given as goal

-- the hex of each id so far is one line
abbrev pub invariant-loop-id : goal.invariant-loop-id
invariant-loop-id l = All (λ id. IsByteFree newline (encode_id_hex id)) (take l.id-index l.ids)
