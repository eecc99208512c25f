use Rattle.std.proofs.Common.{All, List, subst}
use Rattle.gixobj_hash.specs.Hash.{encode_id_hex}
use Rattle.gixobj_hash.specs.declared.hash.object_id.ObjectId.{ObjectId}
use Rattle.gixobj_hash.specs.Bytes.{newline}
use Rattle.gixobj_hash.specs.ByteStrings.{IsByteFree}
use Rattle.gixobj_codec.proofs.OwnedFields.{owned_commit_has_line_fields}
use Rattle.gixobj_codec.proofs.signed.owned_commits_have_line_fields.Goals as goal

pub returns : goal.returns
returns c =
    let parents = subst (λ (ids : List ObjectId). All (λ id. IsByteFree newline (encode_id_hex id)) ids) c.as_slice.ensures c.ids_have_one_line.ensures in
    owned_commit_has_line_fields c.args.commit.now c.id_has_one_line.ensures parents c.actor_has_one_line.ensures c.actor_has_one_line-2.ensures
