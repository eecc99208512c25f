-- Lemmas on tables that agree with objects and with pairs, for proofs of callers.
use Rattle.std.proofs.Common.{◌≡◌, List, [], ◌∷◌, ◌++◌, Some, subst}
use Rattle.std.proofs.lemmas.List.Elements.{All-contains, Contains-push}
use Rattle.gix_object.specs.Entries.{Pair}
use Rattle.gix_object.specs.Files.{Table, Trees}
use Rattle.gix_object.specs.Openings.{AreTreesOf}
use Rattle.gix_object.specs.RunTables.{AgreesWithObjects}
use Rattle.gix_object.specs.Stores.{Objects}
use Rattle.gix_object.specs.Tables.{AgreesWithPairs, AgreesWithStore}

-- a table that agrees with the objects agrees with their trees
pub agrees_with_store_of_objects : (T : Table) (objects : Objects) (trees : Trees) → AreTreesOf objects trees → AgreesWithObjects T objects
    → AgreesWithStore T trees
agrees_with_store_of_objects T objects trees fits agrees = λ id entries requested is. agrees id entries requested ((fits id entries).0 is)

-- a table that agrees with pairs has the last pair
pub tree_at_last_pair : (T : Table) (pairs below : List Pair) (pair : Pair) → pairs ≡ below ++ pair ∷ [] → AgreesWithPairs T pairs
    → T.tree_at pair.0 ≡ Some pair.1
tree_at_last_pair T pairs below pair is agrees =
    let Known : Pair → Type 0 = λ p. T.tree_at p.0 ≡ Some p.1 in
    All-contains Known (below ++ pair ∷ []) pair (subst (λ (ps : List Pair). AgreesWithPairs T ps) is agrees) (Contains-push below pair)
