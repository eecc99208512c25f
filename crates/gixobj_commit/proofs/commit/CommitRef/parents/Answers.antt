use Rattle.std.proofs.Common.{arith}
use Rattle.std.proofs.lemmas.Grind.{common_steps}
use Rattle.gixobj_hash.proofs.HexIds.{all_zip_decodes_to_id}
use Rattle.gixobj_commit.proofs.commit.CommitRef.parents.Goals as goal

pub returns : goal.returns
returns c = grind (arith, common_steps, all_zip_decodes_to_id)
