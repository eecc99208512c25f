-- An editor of a stored root, and the files of the named tree after an entry was inserted.
use Rattle.std.proofs.Common.{◌≡◌, ℕ, List, ap, subst, sym}
use Rattle.std.specs.Prelude.{IsFalse}
use Rattle.gix_object.specs.Entries.{Pair, EntryView}
use Rattle.gix_object.specs.Bases.{HasBases}
use Rattle.gix_object.specs.Files.{Files, NamedFiles, Path, SameFiles, Table, Trees, Upserted, is_null}
use Rattle.gix_object.specs.Hash.{id_kind}
use Rattle.gix_object.specs.Openings.{AreTreesOf, OfTrees}
use Rattle.gix_object.specs.State.{EditorFiles, State, new_state, open_bases, open_dirs}
use Rattle.gix_object.specs.Stores.{StoreModel}
use Rattle.gix_object.specs.Tables.{AgreesWithPairs, AgreesWithStore}
use Rattle.gix_object.specs.Upserts.{IsUpserted, IsUpsertError}
use Rattle.gix_object.specs.Writes.{IsWrittenEditor}
use Rattle.gix_object.specs.write.write.Written.{Written}
use Rattle.gix_object.specs.directories.error.Error.{Error}
use Rattle.gix_object.specs.hash.hash.object_id.ObjectId.{ObjectId}
use Rattle.gix_object.proofs.Files.{same_files_trans, upserted_congruent}
use Rattle.gixobj_listings.specs.Roots.{IsRoot, StoredRootHasFiles}
use Rattle.gixobj_examples_edits.specs.Plans.{IsNotInserted, IsInserted}

module _ {S : Type 0} (model : StoreModel S) (store : S) (root_id : ObjectId) (path : Path) (mode : ℕ) (id : ObjectId) where
  -- the errors and the effect of an edit by an editor of the stored root
  pub inserted_in_root : (editor edited : State S) (entries : List EntryView) → IsRoot (model.objects store) root_id entries
      → editor ≡ new_state entries store (id_kind root_id)
      → ((trees : Trees) → AreTreesOf (model.objects editor.store) trees → IsUpserted trees editor path mode id edited)
      → IsInserted model store root_id path mode id edited
  inserted_in_root editor edited entries is same appended = record {
    entries = entries;
    is_root = is;
    inserted = subst (λ (state : State S). (trees : Trees) → AreTreesOf (model.objects state.store) trees → IsUpserted trees state path mode id edited) same
        appended;
  }

  pub not_inserted_in_root : (editor : State S) (entries : List EntryView) (error : Error) → IsRoot (model.objects store) root_id entries
      → editor ≡ new_state entries store (id_kind root_id)
      → ((trees : Trees) → AreTreesOf (model.objects editor.store) trees → IsUpsertError (model.objects editor.store) (model.may_fail editor.store) trees
      (open_dirs editor) path error)
      → IsNotInserted model store root_id path mode id error
  not_inserted_in_root editor entries error is same rejects = (
    entries,
    is,
    subst (λ (state : State S). (trees : Trees) → AreTreesOf (model.objects state.store) trees
        → IsUpsertError (model.objects state.store) (model.may_fail state.store) trees (open_dirs state) path error) same rejects,
  )

  -- the named tree has the files that the edit makes of the root's; by the law that a stored root has its files
  module _ (editor : State S) (entries : List EntryView) (is_root : IsRoot (model.objects store) root_id entries)
      (new : editor ≡ new_state entries store (id_kind root_id))
      (bases : (T : Table) → HasBases T (open_dirs editor) (open_bases editor))
      (begun : (T : Table) (n : ℕ) → SameFiles (EditorFiles T n editor) (Files T n entries)) where
    pub planned_files : StoredRootHasFiles → {F : Type 0} (gave : F → Pair → F → Type 0) (out last : F) (edited remaining : State S)
        (written : Written) → OfTrees (model.objects editor.store) (λ trees. IsUpserted trees editor path mode id edited)
        → IsWrittenEditor gave out edited written remaining last
        → IsFalse (is_null root_id) → (trees : Trees) → AreTreesOf (model.objects store) trees → (T : Table) (n : ℕ) → AgreesWithStore T trees
        → AgreesWithPairs T written.trees.items
        → SameFiles (NamedFiles T n written.id) (Upserted T n path mode id (NamedFiles T n root_id))
    planned_files has_files gave out last edited remaining written appended wrote filled trees fits T n agrees pairs =
        let done = appended trees (subst (λ (it : S). AreTreesOf (model.objects it) trees) (sym (ap (λ (state : State S). state.store) new)) fits) in
        let root : SameFiles (EditorFiles T n editor) (NamedFiles T n root_id) =
        same_files_trans _ _ _ (begun T n) (has_files (model.objects store) trees fits T agrees root_id entries filled is_root n) in
        same_files_trans _ _ _ (wrote.files T n pairs (done.has_bases T agrees (bases T)))
        (same_files_trans _ _ _ (done.files T n agrees) (upserted_congruent T n path mode id (EditorFiles T n editor) (NamedFiles T n root_id) root))
