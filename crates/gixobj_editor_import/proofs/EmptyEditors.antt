-- An editor without entries has no files.
use Rattle.std.proofs.Common.{◌≡◌, ◌∙◌, ℕ, zero, suc, List, [], ◌∷◌, None, Option, Some, subst, sym}
use Rattle.std.specs.Cmp.Lexicographic.{lists_total, nat_list_cmp_total, slice_cmp}
use Rattle.std.specs.FinMap as map
use Rattle.std.specs.Ordering.{nat_cmp}
use Rattle.gixobj_editor_files.specs.Bases.{HasBases}
use Rattle.gixobj_editor_files.specs.Files.{Path, SameFiles, Table}
use Rattle.gixobj_editor_files.specs.Opening.{HasAt, OpenFiles}
use Rattle.gixobj_editor_files.specs.State.{DirMap, EditorFiles, State, open_bases, open_dirs, root_alone}
use Rattle.gixobj_hash.specs.declared.hash.object_id.ObjectId.{ObjectId}
use Rattle.gixobj_tree_entries.specs.Entries.{EntryView}
use Rattle.gixobj_editor_files.specs.PlainHistory.{NoFiles}

-- ---- a root without entries that is open alone

root_alone_at_root : map.get (root_alone []) [] ≡ Some []
root_alone_at_root = map.get-insert (lists_total nat_list_cmp_total) map.empty [] [] []

root_alone_below_root : (name : List ℕ) (path : Path) → map.get (root_alone []) (name ∷ path) ≡ None
root_alone_below_root name path = map.get-insert (lists_total nat_list_cmp_total) map.empty [] [] (name ∷ path) ∙ map.get-empty (slice_cmp (slice_cmp nat_cmp))
    (name ∷ path)

root_alone_nil_has_no_entry : (path : Path) (e : EntryView) → HasAt (map.get (root_alone []) path) e → ⊥
root_alone_nil_has_no_entry [] e has = subst (λ (found : Option (List EntryView)). HasAt found e) root_alone_at_root has
root_alone_nil_has_no_entry (name ∷ path) e has = subst (λ (found : Option (List EntryView)). HasAt found e) (root_alone_below_root name path) has

root_alone_nil_has_no_file : (T : Table) (n : ℕ) (path : Path) (mode : ℕ) (id : ObjectId) → OpenFiles T n (λ at. map.get (root_alone []) at) path mode id → ⊥
root_alone_nil_has_no_file T zero path mode id has = has
root_alone_nil_has_no_file T (suc n) [] mode id has = has
root_alone_nil_has_no_file T (suc n) (name ∷ path) mode id has = root_alone_nil_has_no_entry [] has.0 has.1

module _ {S : Type 0} (state : State S) (is : state.dirs ≡ root_alone []) where
  -- the editor has no files
  pub nothing_open : (T : Table) (n : ℕ) → SameFiles (EditorFiles T n state) NoFiles
  nothing_open T n =
      subst (λ (dirs : DirMap). SameFiles (OpenFiles T n (λ at. map.get dirs at)) NoFiles) (sym is)
      (λ path mode id. (root_alone_nil_has_no_file T n path mode id, λ none. absurd none))

  -- only the root is open, so every table has the bases
  pub nothing_based : (T : Table) → HasBases T (open_dirs state) (open_bases state)
  nothing_based T path e base has based filled = absurd (root_alone_nil_has_no_entry path e (subst (λ (dirs : DirMap). HasAt (map.get dirs path) e) is has))
