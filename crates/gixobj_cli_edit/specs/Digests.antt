-- Ids of the trees that the writes of a script emit.
use Rattle.std.specs.Prelude.{◌≡◌, List, [], ◌∷◌, All, IsFalse}
use Rattle.gixobj_editor_files.specs.Files.{is_null}
use Rattle.gixobj_hash.specs.Hash.{id_of}
use Rattle.gixobj_hash.specs.declared.hash.kind.Kind as hash
use Rattle.gixobj_hash.specs.declared.kind.Kind.TheVariants.{Tree}
use Rattle.gixobj_tree_entries.specs.Entries.{Pair}

-- different trees have different ids, the empty tree among them, and no id is null
pub record HaveDistinctIds (hash : hash.Kind) (pairs : List Pair) : Type 0 where
  pub filled : All (λ pair. IsFalse (is_null pair.0)) pairs
  pub one_tree : All (λ pair. All (λ other. other.0 ≡ pair.0 → other.1 ≡ pair.1) ((id_of hash Tree [], []) ∷ pairs))
      pairs
