-- Tables that agree with imports: for the law `consistent_import_has_table`.
use Rattle.std.proofs.Common.{◌≡◌, ◌≢◌, ◌∙◌, ⊎_elim, All, ℕ, zero, suc, List, [], ◌∷◌, ◌++◌, Option, None, Some, ap, subst, sym, take}
use Rattle.std.proofs.lemmas.List.Elements.{All-head, All-nil, All-cons, All-tail}
use Rattle.gixobj_store.specs.Stores.{Objects, StoredObject, named}
use Rattle.gixobj_editor_lookups.specs.Openings.{AreTreesOf, NamesTree}
use Rattle.gixobj_editor_files.specs.Files.{Table, Trees}
use Rattle.gixobj_editor_files.specs.Tables.{AgreesWithPairs, AgreesWithStore, IsConsistentWith}
use Rattle.gixobj_hash.specs.declared.hash.object_id.ObjectId.{ObjectId}
use Rattle.gixobj_hash.specs.declared.kind.Kind.TheVariants.{Tree}
use Rattle.gixobj_store_keep.specs.Keeping.{commit_object, tree_object, with_commit, with_tree, with_trees}
use Rattle.gixobj_editor.specs.RunTables.{AgreesWithObjects, DecodesToItself}
use Rattle.gixobj_tree_entries.specs.TreeDecoding.{DecodesToTree}
use Rattle.gixobj_tree_entries.specs.Entries.{EntryView, Pair}
use Rattle.gixobj_editor_import.specs.Commits.{encode_step}
use Rattle.gixobj_editor_import.specs.Imports.{AgreesWithImports, pairs_of_imports, with_imports}
use Rattle.gixobj_editor_import.specs.declared.import.Imported.{Imported}
use Rattle.gixobj_editor_import.specs.declared.import.Step.{Step}
use Rattle.gixobj_editor_import.proofs.StoreFacts.{Inserted}

module _ (laws : Inserted) (T : Table) where
  abbrev Has : Pair → Type 0
  Has pair = T.tree_at pair.0 ≡ Some pair.1

  -- a table that agrees with a store agrees with it after an object is inserted, if the table has each tree that the
  -- object is
  inserted_agrees : (objects : Objects) (inserted : ObjectId) (it : StoredObject) (after : Objects)
      → ((q : ObjectId) → q ≢ inserted → named after q ≡ named objects q) → named after inserted ≡ Some it → AgreesWithObjects T objects
      → ((entries : List EntryView) → it.kind ≡ Tree → DecodesToTree it.object_hash it.bytes entries → NamesTree after inserted entries
      → T.tree_at inserted ≡ Some entries) → AgreesWithObjects T after
  inserted_agrees objects inserted it after elsewhere there agrees reads id entries searched names =
      ⊎_elim
      (λ is.
      let at_insert : NamesTree after inserted entries = subst (λ (q : ObjectId). NamesTree after q entries) is names in
      let same : at_insert.0.0 ≡ it = cc (there, at_insert.0.1) in
      ap T.tree_at is ∙ reads entries (sym (ap (λ (o : StoredObject). o.kind) same) ∙ at_insert.0.2)
      (subst (λ (o : StoredObject). DecodesToTree o.object_hash o.bytes entries) same at_insert.0.3) at_insert)
      (λ other. agrees id entries searched ((names.0.0, sym (elsewhere id other) ∙ names.0.1, names.0.2, names.0.3), names.1))
      (laws.same_or_not id inserted)

  with_tree_agrees : (objects : Objects) (pair : Pair) → AgreesWithObjects T objects → Has pair → DecodesToItself pair
      → AgreesWithObjects T (with_tree pair objects)
  with_tree_agrees objects pair agrees has reads =
      let it = tree_object pair.0 pair.1 in
      inserted_agrees objects pair.0 it (with_tree pair objects) (λ q other. laws.elsewhere objects pair.0 q it other) (laws.there objects pair.0 it) agrees
      (λ entries tree content names. has ∙ ap Some (sym (reads entries content names.1)))

  with_trees_agrees : (pairs : List Pair) (objects : Objects) → AgreesWithObjects T objects → AgreesWithPairs T pairs → All DecodesToItself pairs
      → AgreesWithObjects T (with_trees pairs objects)
  with_trees_agrees [] objects agrees has reads = agrees
  with_trees_agrees (pair ∷ pairs) objects agrees has reads =
      with_trees_agrees pairs (with_tree pair objects)
      (with_tree_agrees objects pair agrees (All-head Has pair pairs has) (All-head DecodesToItself pair pairs reads))
      (All-tail Has pair pairs has) (All-tail DecodesToItself pair pairs reads)

  with_commit_agrees : (objects : Objects) (id : ObjectId) (content : List ℕ) → AgreesWithObjects T objects
      → AgreesWithObjects T (with_commit id content objects)
  with_commit_agrees objects id content agrees =
      let it = commit_object id content in
      inserted_agrees objects id it (with_commit id content objects) (λ q other. laws.elsewhere objects id q it other) (laws.there objects id it) agrees
      (λ entries tree content names. cc tree)

  first_of : (P : Pair → Type 0) (first then : List Pair) → All P (first ++ then) → All P first
  first_of P [] then all = All-nil P
  first_of P (pair ∷ first) then all = All-cons P pair first (All-head P pair (first ++ then) all) (first_of P first then (All-tail P pair (first ++ then) all))

  then_of : (P : Pair → Type 0) (first then : List Pair) → All P (first ++ then) → All P then
  then_of P [] then all = all
  then_of P (pair ∷ first) then all = then_of P first then (All-tail P pair (first ++ then) all)

  -- a table agrees with the store after `count` steps
  with_imports_agrees : (count : ℕ) (parent : Option ObjectId) (steps : List Step) (imported : List Imported) (objects : Objects) → AgreesWithObjects T objects
      → AgreesWithPairs T (pairs_of_imports imported) → All DecodesToItself (pairs_of_imports imported)
      → AgreesWithObjects T (with_imports parent (take count steps) (take count imported) objects)
  with_imports_agrees zero parent steps imported objects agrees has reads = agrees
  with_imports_agrees (suc count) parent [] imported objects agrees has reads = agrees
  with_imports_agrees (suc count) parent (step ∷ steps) [] objects agrees has reads = agrees
  with_imports_agrees (suc count) parent (step ∷ steps) (it ∷ imported) objects agrees has reads =
      let pairs = it.written.trees.items in
      let more = pairs_of_imports imported in
      with_imports_agrees count (Some it.commit) steps imported (with_commit it.commit (encode_step step it.written.id parent) (with_trees pairs objects))
      (with_commit_agrees (with_trees pairs objects) it.commit (encode_step step it.written.id parent)
      (with_trees_agrees pairs objects agrees (first_of Has pairs more has) (first_of DecodesToItself pairs more reads)))
      (then_of Has pairs more has)
      (then_of DecodesToItself pairs more reads)

-- some table agrees with the imports if their pairs are consistent with the store
pub table_of_imports_exists : Inserted → ((pairs : List Pair) (trees : Trees) → IsConsistentWith pairs trees → (T : Table) × AgreesWithStore T trees
    × AgreesWithPairs T pairs)
    → (steps : List Step) (imported : List Imported) (objects : Objects) (trees : Trees) → AreTreesOf objects trees
    → IsConsistentWith (pairs_of_imports imported) trees → All DecodesToItself (pairs_of_imports imported)
    → (T : Table) × AgreesWithImports T objects None steps imported
table_of_imports_exists laws fitting steps imported objects trees fits next_to reads =
    let table = fitting (pairs_of_imports imported) trees next_to in
    let T = table.0 in
    let agrees : AgreesWithObjects T objects = λ id entries searched names. table.1 id entries searched ((fits id entries).1 names) in
    (T, record { writes = table.2; stores = λ count. with_imports_agrees laws T count None steps imported objects agrees table.2 reads })
