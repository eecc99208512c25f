-- What the written tree of a directory emits after the directories in it: nothing, unless it has entries and is changed;
-- for `written_id`.
use Rattle.std.proofs.Common.{◌≡◌, ◌≢◌, ◌∙◌, ◌+◌, ℕ, List, [], ◌∷◌, ◌++◌, Some, sym, ap, subst, arith, append-nil}
use Rattle.gixobj_tree_entries.specs.Entries.{EntryView, Pair}
use Rattle.gixobj_hash.specs.declared.hash.object_id.ObjectId.{ObjectId}
use Rattle.gixobj_editor_files.specs.Emission.{entry_unless_null}
use Rattle.gixobj_editor_files.specs.Opening.{Dirs}
use Rattle.gixobj_editor_write.specs.Frames.{EmitsWritten}
use Rattle.gixobj_editor_write.specs.WriteErrors.{EmitsEntry}
use Rattle.gixobj_editor_write.proofs.Emitting.{emits_entry_emptied, emits_entry_unchanged, emits_entry_written}
use Rattle.gixobj_editor_write.proofs.TakenTrees.{some_unique}

emits_entry_append_nil : (inside based : Dirs) (e : EntryView) (inner : List Pair) (kept : List EntryView) (m n : ℕ) → m ≡ n
    → EmitsEntry inside based e inner kept m → EmitsEntry inside based e (inner ++ []) kept n
emits_entry_append_nil inside based e inner kept m n same emits =
    subst (λ ps. EmitsEntry inside based e ps kept n) (sym (append-nil inner)) (subst (λ k. EmitsEntry inside based e inner kept k) same emits)

module _ (base : List EntryView) (e : EntryView) (written_tree : List EntryView) where
  pub emits_written_empty : written_tree ≡ [] → EmitsWritten base e written_tree [] [] 0
  emits_written_empty none = λ inside based inner n is found. emits_entry_append_nil inside based e inner [] n (n + 0) (omega arith)
      (emits_entry_emptied inside based e inner written_tree n none found)

  pub emits_written_unchanged : written_tree ≢ [] → written_tree ≡ base → EmitsWritten base e written_tree [] (entry_unless_null e e.id) 1
  emits_written_unchanged filled same = λ inside based inner n is found. emits_entry_append_nil inside based e inner (entry_unless_null e e.id) (n + 1) (n + 1)
      (omega arith) (emits_entry_unchanged inside based e inner written_tree n filled (is ∙ ap Some (sym same)) found)

  pub emits_written_changed : written_tree ≢ [] → written_tree ≢ base → (id : ObjectId)
      → EmitsWritten base e written_tree ((id, written_tree) ∷ []) (entry_unless_null e id) 0
  emits_written_changed filled changed id = λ inside based inner n is found.
      subst (λ k. EmitsEntry inside based e (inner ++ (id, written_tree) ∷ []) (entry_unless_null e id) k) (omega arith)
      (emits_entry_written inside based e inner written_tree n id filled (λ q. changed (some_unique written_tree base (sym q ∙ is))) found)
