use Rattle.std.proofs.Common.{All, subst, sym, take}
use Rattle.std.proofs.lemmas.List.{take_all, take_more}
use Rattle.std.proofs.lemmas.List.Elements.{All-push}
use Rattle.gixobj_hash.specs.Hash.{encode_id_hex}
use Rattle.gixobj_hash.specs.declared.hash.object_id.ObjectId.{ObjectId}
use Rattle.gixobj_hash.specs.Bytes.{newline}
use Rattle.gixobj_hash.specs.ByteStrings.{IsByteFree}
use Rattle.gixobj_codec.proofs.one_line.ids_have_one_line.Goals as goal

HasOneLine : ObjectId → Type 0
HasOneLine id = IsByteFree newline (encode_id_hex id)

pub loop-id-preserved : goal.loop-id-preserved
unfolding HasOneLine
loop-id-preserved c =
    subst (All HasOneLine) (sym (take_more c.args.ids.now c.loop-id.id-index _ c.loop-id-test.true))
    (All-push HasOneLine (take c.loop-id.id-index c.args.ids.now) _ c.loop-id.invariant c.id_has_one_line.ensures)

pub returns : goal.returns
unfolding HasOneLine
returns c = subst (All HasOneLine) (take_all c.loop-id.id-index c.args.ids.now c.loop-id-test.false) c.loop-id.invariant
