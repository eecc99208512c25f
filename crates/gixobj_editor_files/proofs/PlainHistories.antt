-- The files that steps make of none need no table, if no tree is upserted and no root but the empty one is set.
use Rattle.std.proofs.Common.{◌≡◌, ◌∙◌, ◌↔◌, ◌≤◌, inl, inr, ⊎_elim, ℕ, ◌-◌, Bool, false, cond, List, [], ◌∷◌, ◌++◌, All, length, refl, sym, ap, subst, None}
use Rattle.std.specs.Prelude.{MatchOption, IsFalse}
use Rattle.std.specs.List.{AllByRecursion}
use Rattle.std.proofs.lemmas.List.Elements.{recursion_from_All}
use Rattle.gixobj_tree_entries.specs.Entries.{EntryView}
use Rattle.gixobj_tree_entries.specs.Mode.{is_tree_mode}
use Rattle.gixobj_hash.specs.declared.hash.object_id.ObjectId.{ObjectId}
use Rattle.gixobj_editor_files.specs.Files.{Below, FileSet, Files, Path, PlacedFile, Table, is_null}
use Rattle.gixobj_editor_files.specs.History.{FilesAfter, Step, after_step, ensure, remove, set_root, upsert}
use Rattle.gixobj_editor_files.specs.PlainHistory.{HasNoTree, NoFiles, PlainFilesAfter, after_plain_step}
use Rattle.gixobj_editor_files.proofs.OpenedFiles.{no_open_files_of_no_entries}

-- the files of the first set are those of the second whose paths have at most `n` names
abbrev pub IsUpTo : ℕ → FileSet → FileSet → Type 0
IsUpTo n A B = (path : Path) (mode : ℕ) (id : ObjectId) → A path mode id ↔ ((length path ≤ n) × B path mode id)

append_nil : (p : Path) → p ++ [] ≡ p
append_nil [] = refl
append_nil (name ∷ p) = ap (λ (l : Path). name ∷ l) (append_nil p)

module _ (T : Table) where
  -- the files of an entry that isn't of tree mode: the entry itself, unless its id is null
  below_file : (F : List EntryView → FileSet) (m : ℕ) (named : ObjectId) → is_tree_mode m ≡ false → (path : Path) (mode : ℕ) (id : ObjectId)
      → Below T F m named path mode id ↔ (IsFalse (is_null named) × ((path ≡ []) × (mode ≡ m) × (id ≡ named)))
  below_file F m named other path mode id =
      subst (λ (b : Bool). (IsFalse (is_null named) × MatchOption (cond b (T.tree_at named) None) ((path ≡ []) × (mode ≡ m) × (id ≡ named))
      (λ es. F es path mode id)) ↔ (IsFalse (is_null named) × ((path ≡ []) × (mode ≡ m) × (id ≡ named)))) (sym other) ((λ h. h), λ h. h)

  placed_file : (n : ℕ) (p : Path) (m : ℕ) (named : ObjectId) → is_tree_mode m ≡ false → (path : Path) (mode : ℕ) (id : ObjectId)
      → PlacedFile T n p m named path mode id ↔ ((length path ≤ n) × IsFalse (is_null named) × (path ≡ p) × (mode ≡ m) × (id ≡ named))
  placed_file n p m named other path mode id = (
    (λ h.
        let it = (below_file (Files T (n - length p)) m named other h.1 mode id).0 h.3 in
        let is : path ≡ p = h.2 ∙ ap (λ (l : Path). p ++ l) it.1.0 ∙ append_nil p in
        (subst (λ (l : Path). length l ≤ n) (sym is) h.0, it.0, is, it.1.1, it.1.2)),
    λ h. (
      subst (λ (l : Path). length l ≤ n) h.2 h.0,
      [],
      h.2 ∙ sym (append_nil p),
      (below_file (Files T (n - length p)) m named other [] mode id).1
          (h.1, (refl, h.3, h.4)),
    ),
  )

  module _ (n : ℕ) where
    step_plain : (step : Step) → HasNoTree step → (A B : FileSet) → IsUpTo n A B → IsUpTo n (after_step T n step A) (after_plain_step step B)
    step_plain (upsert [] m named) other A B same path mode id = same path mode id
    step_plain (upsert (name ∷ p) m named) other A B same path mode id =
        let insert_entry = placed_file n (name ∷ p) m named other path mode id in (
          ⊎_elim (λ h. let was = (same path mode id).0 h.0 in (was.0, inl (was.1, h.1, h.2)))
              (λ h. let it = insert_entry.0 h in (it.0, inr (it.1, it.2, it.3, it.4))),
          λ h. ⊎_elim (λ k. inl ((same path mode id).1 (h.0, k.0), k.1, k.2)) (λ k. inr (insert_entry.1 (h.0, k.0, k.1, k.2, k.3))) h.1,
        )
    step_plain (remove []) other A B same path mode id = same path mode id
    step_plain (remove (name ∷ p)) other A B same path mode id =
        ((λ h. let was = (same path mode id).0 h.0 in (was.0, (was.1, h.1))), λ h. ((same path mode id).1 (h.0, h.1.0), h.1.1))
    step_plain (ensure []) other A B same path mode id = same path mode id
    step_plain (ensure (name ∷ p)) other A B same path mode id =
        ((λ h. let was = (same path mode id).0 h.0 in (was.0, (was.1, h.1))), λ h. ((same path mode id).1 (h.0, h.1.0), h.1.1))
    step_plain (set_root entries) empty A B same path mode id =
        ((λ h. absurd (no_open_files_of_no_entries T n path mode id (subst (λ es. Files T n es path mode id) empty h))), λ h. absurd h.1)

    pub steps_plain : (steps : List Step) → AllByRecursion HasNoTree steps → (A B : FileSet) → IsUpTo n A B
        → IsUpTo n (FilesAfter T n steps A) (PlainFilesAfter steps B)
    steps_plain [] none A B same = same
    steps_plain (step ∷ steps) none A B same = steps_plain steps none.1 (after_step T n step A) (after_plain_step step B) (step_plain step none.0 A B same)

-- all steps make the same files in every table, to the depth `n`
pub history_is_up_to_plain : (steps : List Step) → All HasNoTree steps → (T : Table) (n : ℕ)
    → IsUpTo n (FilesAfter T n steps NoFiles) (PlainFilesAfter steps NoFiles)
history_is_up_to_plain steps none T n = steps_plain T n steps (recursion_from_All HasNoTree steps none) NoFiles NoFiles
    (λ path mode id. ((λ h. absurd h), λ h. absurd h.1))
