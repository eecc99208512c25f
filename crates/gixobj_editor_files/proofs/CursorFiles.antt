-- The files of the open directories after one of them is ensured, and after the one at a path is written.
use Rattle.std.proofs.Common.{◌≡◌, ◌≢◌, ℕ, ◌+◌, List, [], ◌∷◌, ◌++◌, length, refl, sym, subst, Option, Some, None}
use Rattle.std.specs.Prelude.{MatchOption}
use Rattle.std.proofs.lemmas.List.Elements.{recursion_from_All}
use Rattle.gixobj_tree_entries.specs.Entries.{EntryView, Pair}
use Rattle.gixobj_hash.specs.declared.hash.object_id.ObjectId.{ObjectId}
use Rattle.gixobj_editor_files.specs.Edits.{IsNoTree, Opens, ensured_dirs, only_open, with_path}
use Rattle.gixobj_editor_files.specs.Files.{Ensured, Files, NamedFiles, Path, SameFiles, Table, Trees}
use Rattle.gixobj_editor_files.specs.Emission.{EmitsBelow}
use Rattle.gixobj_editor_files.specs.Opening.{Dirs, IsOpened, OpenFiles, in_path}
use Rattle.gixobj_editor_files.specs.Tables.{AgreesWithPairs, AgreesWithStore}
use Rattle.gixobj_editor_files.proofs.EnsuredFiles.{ensured_dirs_files_of_open, is_open_along_of_opens}
use Rattle.gixobj_editor_files.proofs.Based.{Based}
use Rattle.gixobj_editor_files.proofs.Everywhere.{Everywhere}
use Rattle.gixobj_editor_files.proofs.LastingProperties.{everywhere_in_path}
use Rattle.gixobj_editor_files.proofs.BelowPrefix.{files_in_path, is_opened_in_path, files_with_same_inner}
use Rattle.gixobj_editor_files.proofs.EditedFiles.{ensured_congruent, same_files_trans}
use Rattle.gixobj_editor_files.proofs.OpenedFiles.{open_files_of_root_alone}
use Rattle.gixobj_editor_files.proofs.OpeningFiles.{opens_keeps_files}
use Rattle.gixobj_editor_files.proofs.WrittenFiles.{known_append_left, known_append_right, emits_below_files, are_trees_of_opened}

-- a directory that is ensured after an opening of its path drops the files at the path, and those at the paths of
-- parent directories
pub ensured_dirs_files : (T : Table) (trees : Trees) → AgreesWithStore T trees → (path : Path) (null : ObjectId) (old mid : Dirs) (looked_up : List ObjectId)
    → Opens IsNoTree trees path old mid looked_up
    → (n : ℕ) → SameFiles (OpenFiles T n (ensured_dirs path null mid)) (Ensured path (OpenFiles T n old))
ensured_dirs_files T trees agrees path null old mid looked_up opens n =
    same_files_trans _ _ _ (ensured_dirs_files_of_open T n path null mid (is_open_along_of_opens trees path old mid looked_up opens))
    (ensured_congruent path (OpenFiles T n mid) (OpenFiles T n old) (opens_keeps_files T trees agrees path old mid looked_up opens n))

-- the written tree of the directory at a path has the files of the directories at and below it
written_tree_files_at_prefix : (T : Table) (prefix : Path) (dirs bases : Dirs) (below : List Pair) (written_tree : List EntryView) (saved : ℕ) (id : ObjectId)
    → IsOpened dirs
    → Everywhere (Based T) dirs bases → dirs prefix ≢ None → EmitsBelow (in_path prefix dirs) (in_path prefix bases) below written_tree saved
    → AgreesWithPairs T (below ++ (id, written_tree) ∷ [])
    → (n : ℕ) → SameFiles (Files T n written_tree) (OpenFiles T n (in_path prefix dirs))
written_tree_files_at_prefix T prefix dirs bases below written_tree saved id all based there going agrees =
    emits_below_files T (in_path prefix dirs) (in_path prefix bases) below written_tree saved going
    (are_trees_of_opened (in_path prefix dirs) (is_opened_in_path prefix dirs all there))
    (everywhere_in_path (Based T) prefix dirs bases based)
    (known_append_left T below ((id, written_tree) ∷ []) (recursion_from_All (λ (p : Pair). T.tree_at p.0 ≡ Some p.1)
    (below ++ (id, written_tree) ∷ []) agrees))

-- the id of a written directory names the files below its path
pub written_id_files_below_prefix : (T : Table) (n : ℕ) (prefix : Path) (dirs bases : Dirs) (below : List Pair) (written_tree : List EntryView)
    (saved : ℕ) (id : ObjectId)
    → IsOpened dirs → Everywhere (Based T) dirs bases → dirs prefix ≢ None → EmitsBelow (in_path prefix dirs) (in_path prefix bases) below written_tree saved
    → AgreesWithPairs T (below ++ (id, written_tree) ∷ [])
    → SameFiles (NamedFiles T n id) (λ path. OpenFiles T (n + length prefix) dirs (prefix ++ path))
written_id_files_below_prefix T n prefix dirs bases below written_tree saved id all based there going agrees =
    let inner : Dirs = in_path prefix dirs in
    let named : T.tree_at id ≡ Some written_tree =
    (known_append_right T below ((id, written_tree) ∷ []) (recursion_from_All (λ (p : Pair). T.tree_at p.0 ≡ Some p.1)
    (below ++ (id, written_tree) ∷ []) agrees)).0 in
    let files : SameFiles (NamedFiles T n id) (OpenFiles T n inner) =
    subst (λ (o : Option (List EntryView)). SameFiles (λ path mode it. MatchOption o ⊥ (λ es. Files T n es path mode it)) (OpenFiles T n inner)) (sym named)
    (written_tree_files_at_prefix T prefix dirs bases below written_tree saved id all based there going agrees n) in
    same_files_trans _ _ _ files (files_in_path T n prefix dirs all there)

-- a write leaves open directories with the same files
pub write_keeps_files : (T : Table) (n : ℕ) (prefix : Path) (dirs bases : Dirs) (below : List Pair) (written_tree : List EntryView) (saved : ℕ) (id : ObjectId)
    → IsOpened dirs → Everywhere (Based T) dirs bases → dirs prefix ≢ None → EmitsBelow (in_path prefix dirs) (in_path prefix bases) below written_tree saved
    → AgreesWithPairs T (below ++ (id, written_tree) ∷ [])
    → SameFiles (OpenFiles T n (with_path prefix (only_open written_tree) dirs)) (OpenFiles T n dirs)
write_keeps_files T n prefix dirs bases below written_tree saved id all based there going agrees =
    files_with_same_inner T prefix (only_open written_tree) dirs all there (λ none. cc none)
    (λ k. same_files_trans _ _ _ (open_files_of_root_alone T k (only_open written_tree) written_tree refl (λ name. refl))
    (written_tree_files_at_prefix T prefix dirs bases below written_tree saved id all based there going agrees k)) n
