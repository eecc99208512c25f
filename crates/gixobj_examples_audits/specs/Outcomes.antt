-- Equal open directories, and writes whose ids are a function of the trees, as digests are.
use Rattle.std.specs.Prelude.{◌≡◌, ◌∷◌, List, [], ⊤}
use Rattle.gix_object.specs.Entries.{EntryView, Pair}
use Rattle.gix_object.specs.Files.{Path}
use Rattle.gix_object.specs.Opening.{Dirs}
use Rattle.gix_object.specs.hash.hash.object_id.ObjectId.{ObjectId}

-- the same directories are open, with the same entries
abbrev pub AreSameDirs : Dirs → Dirs → Type 0
AreSameDirs dirs others = (path : Path) → dirs path ≡ others path

-- the id of each tree is the one that this function returns for the tree
abbrev pub HaveIdsBy : (List EntryView → ObjectId) → List Pair → Type 0
HaveIdsBy id_by [] = ⊤
HaveIdsBy id_by (pair ∷ pairs) = (pair.0 ≡ id_by pair.1) × HaveIdsBy id_by pairs
