-- Which commits some starts reach.
use Rattle.std.specs.Prelude.{◌⊎◌, List}
use Rattle.gixobj_walks_graph.specs.Graph.{Graph, IsReachedFrom}

-- a tip or a hidden commit reaches it
abbrev pub IsReachedFromEither : {V : Type 0} → Graph V → List V → List V → V → Type 0
IsReachedFromEither G tips hidden id = IsReachedFrom G tips id ⊎ IsReachedFrom G hidden id
