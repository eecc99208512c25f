use Rattle.std.proofs.Common.{arith, map}
use Rattle.std.proofs.lemmas.Grind.{common_steps}
use Rattle.bstr.specs.BStr.{bstr_bytes}
use Rattle.gixobj_hash.proofs.HexIds.{all_zip_decodes_to_id}
use Rattle.gixobj_grammar.proofs.ParentHexes.{parent_at_is_id_hex}
use Rattle.gixobj_commit.proofs.commit.owned.ids.Goals as goal

pub id_of_hex-requires : goal.id_of_hex-requires
id_of_hex-requires c = parent_at_is_id_hex c.args.hexes.now c.loop-hex.hex-index _ c.loop-hex-test.true c.requires

pub returns : goal.returns
returns c = all_zip_decodes_to_id (map bstr_bytes c.args.hexes.now) c.loop-hex.ids.items c.requires (grind (arith, common_steps))
