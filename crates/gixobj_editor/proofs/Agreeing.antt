-- Tables that agree with runs.
use Rattle.std.proofs.Common.{◌≡◌, ◌≢◌, ⊎_elim, All, List, [], ◌∷◌, ◌∙◌, Some, ap, subst, sym, take}
use Rattle.std.proofs.lemmas.List.Elements.{All-head, All-tail, All-take}
use Rattle.gixobj_store.proofs.Keeping.{named_insert_other, named_insert_same}
use Rattle.gixobj_store.specs.Stores.{Objects, StoredObject, named}
use Rattle.gixobj_editor_lookups.specs.Openings.{AreTreesOf, NamesTree}
use Rattle.gixobj_editor_files.proofs.ListedTables.{fitting_table}
use Rattle.gixobj_editor_files.specs.Files.{Table, Trees}
use Rattle.gixobj_editor_files.specs.Tables.{AgreesWithPairs, IsConsistentWith, IsNeverLookedUp}
use Rattle.gixobj_hash.specs.declared.hash.object_id.ObjectId.{ObjectId}
use Rattle.gixobj_store_keep.specs.Keeping.{tree_object, with_tree, with_trees}
use Rattle.gixobj_tree_entries.specs.TreeDecoding.{DecodesToTree}
use Rattle.gixobj_tree_entries.specs.Entries.{EntryView, Pair}
use Rattle.gixobj_editor.specs.Commands.{emitted_pairs, kept_pairs}
use Rattle.gixobj_editor.specs.RunTables.{AgreesWithObjects, AgreesWithRun, DecodesToItself}
use Rattle.gixobj_editor.specs.declared.reply.Reply.{Reply}
use Rattle.gixobj_editor.proofs.KeptPairs.{kept_have}
use Rattle.gixobj_hash.proofs.SameIds.{id_eq_or_ne}

module _ (T : Table) where
  abbrev Has : Pair → Type 0
  Has pair = T.tree_at pair.0 ≡ Some pair.1

  -- a table that agrees with a store and has a tree agrees with the store that keeps the tree
  module _ (objects : Objects) (pair : Pair) (agrees : AgreesWithObjects T objects) (has : Has pair) (reads : DecodesToItself pair) where
    abbrev kept_as : StoredObject
    kept_as = tree_object pair.0 pair.1

    at_tree : (it : ObjectId) (entries : List EntryView) → it ≡ pair.0 → NamesTree (with_tree pair objects) it entries → T.tree_at it ≡ Some entries
    at_tree it entries is names =
        let found : named (with_tree pair objects) it ≡ Some kept_as = ap (named (with_tree pair objects)) is ∙ named_insert_same objects pair.0 kept_as in
        let same : names.0.0 ≡ kept_as = cc (found, names.0.1) in
        let content = subst (λ (o : StoredObject). DecodesToTree o.object_hash o.bytes entries) same names.0.3 in
        ap T.tree_at is ∙ has ∙ ap Some (sym (reads entries content names.1))

    at_other : (it : ObjectId) (entries : List EntryView) → (IsNeverLookedUp it → ⊥) → it ≢ pair.0 → NamesTree (with_tree pair objects) it entries
        → T.tree_at it ≡ Some entries
    at_other it entries searched other names =
        agrees it entries searched ((names.0.0, sym (named_insert_other objects pair.0 it kept_as other) ∙ names.0.1, names.0.2, names.0.3), names.1)

    agrees_with_tree : AgreesWithObjects T (with_tree pair objects)
    agrees_with_tree it entries searched names = ⊎_elim (λ is. at_tree it entries is names) (λ other. at_other it entries searched other names)
        (id_eq_or_ne it pair.0)

  agrees_with_trees : (pairs : List Pair) (objects : Objects) → AgreesWithObjects T objects → AgreesWithPairs T pairs → All DecodesToItself pairs
      → AgreesWithObjects T (with_trees pairs objects)
  agrees_with_trees [] objects agrees has reads = agrees
  agrees_with_trees (pair ∷ pairs) objects agrees has reads =
      agrees_with_trees pairs (with_tree pair objects)
      (agrees_with_tree objects pair agrees (All-head Has pair pairs has) (All-head DecodesToItself pair pairs reads))
      (All-tail Has pair pairs has) (All-tail DecodesToItself pair pairs reads)

pub table_of_run_exists : {E : Type 0} (replies : List (Reply E)) (objects : Objects) (trees : Trees) → AreTreesOf objects trees
    → IsConsistentWith (emitted_pairs replies) trees → All DecodesToItself (kept_pairs replies)
    → (T : Table) × AgreesWithRun T objects replies
table_of_run_exists replies objects trees are fits reads =
    let it = fitting_table (emitted_pairs replies) trees fits in
    let agrees : AgreesWithObjects it.0 objects = λ id entries searched names. it.1 id entries searched ((are id entries).1 names) in
    let has = kept_have (Has it.0) replies it.2 in (
      it.0,
      record {
        writes = it.2;
        stores = λ count. agrees_with_trees it.0 (take count (kept_pairs replies)) objects agrees (All-take (Has it.0) count (kept_pairs replies) has)
            (All-take DecodesToItself count (kept_pairs replies) reads);
      },
    )
