use Rattle.std.proofs.Common.{◌≡◌, refl}
use Rattle.std.proofs.lemmas.List.Elements.{All-replicate}
use Rattle.gixobj_hash.proofs.hash.object_id.ObjectId.null.Goals as goal

pub returns-in-Sha256-clause-is_null : goal.returns-in-Sha256-clause-is_null
returns-in-Sha256-clause-is_null c = All-replicate (λ byte. byte ≡ 0) 32 0 refl
