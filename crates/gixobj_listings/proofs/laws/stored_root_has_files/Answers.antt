use Rattle.gixobj_listings.proofs.Rooted.{root_named}
use Rattle.gixobj_listings.proofs.laws.stored_root_has_files.Goals as goal

pub returns : goal.returns
returns c = λ objects trees fits T agrees id entries filled is n.
    root_named c.id_equality_is_decidable.ensures T objects trees id entries filled fits agrees is n
