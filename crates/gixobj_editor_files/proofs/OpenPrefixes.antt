-- The directory at a path is open after edits below it, and after it was ensured; and an entry below a path is found
-- from there.
use Rattle.std.proofs.Common.{◌≡◌, ◌≢◌, ℕ, List, [], ◌∷◌, ◌++◌, refl, sym, ap, ◌∙◌, Some, None}
use Rattle.gixobj_hash.specs.declared.hash.object_id.ObjectId.{ObjectId}
use Rattle.gixobj_editor_files.specs.Edits.{ensured_dirs, entry_at, removed_dirs, upserted_dirs}
use Rattle.gixobj_editor_files.specs.Files.{Path}
use Rattle.gixobj_editor_files.specs.Opening.{Dirs, in_dir, in_path}
use Rattle.gixobj_editor_files.proofs.EnsuredFiles.{ensured_dirs_in_dir}
use Rattle.gixobj_editor_files.proofs.RemovedFiles.{removed_dirs_in_dir}
use Rattle.gixobj_editor_files.proofs.StillOpenedRemovals.{removed_dirs_keep_root}
use Rattle.gixobj_editor_files.proofs.UpsertedFiles.{upserted_dirs_in_dir, upserted_dirs_keep_root}
use Rattle.gixobj_editor_files.proofs.ReachedDirectories.{entry_at_in_dir}

-- an upsert below a name is one in the directories of that name
upserted_dirs_in_first_dir : (first : List ℕ) (rest : Path) (name : List ℕ) (path : Path) (mode : ℕ) (id null : ObjectId) (dirs : Dirs)
    → in_dir first (upserted_dirs (first ∷ (rest ++ name ∷ path)) mode id null dirs) ≡ upserted_dirs (rest ++ name ∷ path) mode id null (in_dir first dirs)
upserted_dirs_in_first_dir first [] name path mode id null dirs = upserted_dirs_in_dir first name path mode id null dirs
upserted_dirs_in_first_dir first (next ∷ rest) name path mode id null dirs = upserted_dirs_in_dir first next (rest ++ name ∷ path) mode id null dirs

-- an upsert below a directory leaves the directory open
pub upserted_dirs_keep_prefix : (prefix : Path) (name : List ℕ) (path : Path) (mode : ℕ) (id null : ObjectId) (dirs : Dirs)
    → upserted_dirs (prefix ++ name ∷ path) mode id null dirs prefix ≢ None
upserted_dirs_keep_prefix [] name path mode id null dirs = λ none. let root = upserted_dirs_keep_root name path mode id null dirs in
    let bad : Some root.0 ≡ None =
    sym root.1 ∙ none in cc bad
upserted_dirs_keep_prefix (first ∷ rest) name path mode id null dirs =
    λ none. upserted_dirs_keep_prefix rest name path mode id null (in_dir first dirs)
    (sym (ap (λ (d : Dirs). d rest) (upserted_dirs_in_first_dir first rest name path mode id null dirs)) ∙ none)

-- a removal below a name is one in the directories of that name
removed_dirs_in_first_dir : (first : List ℕ) (rest : Path) (name : List ℕ) (path : Path) (dirs : Dirs)
    → in_dir first (removed_dirs (first ∷ (rest ++ name ∷ path)) dirs) ≡ removed_dirs (rest ++ name ∷ path) (in_dir first dirs)
removed_dirs_in_first_dir first [] name path dirs = removed_dirs_in_dir first name path dirs
removed_dirs_in_first_dir first (next ∷ rest) name path dirs = removed_dirs_in_dir first next (rest ++ name ∷ path) dirs

-- a removal below an open directory leaves the directory open
pub removed_dirs_keep_prefix : (prefix : Path) (name : List ℕ) (path : Path) (dirs : Dirs) → dirs prefix ≢ None
    → removed_dirs (prefix ++ name ∷ path) dirs prefix ≢ None
removed_dirs_keep_prefix [] name path dirs there = removed_dirs_keep_root (name ∷ path) dirs there
removed_dirs_keep_prefix (first ∷ rest) name path dirs there =
    λ none. removed_dirs_keep_prefix rest name path (in_dir first dirs) there
    (sym (ap (λ (d : Dirs). d rest) (removed_dirs_in_first_dir first rest name path dirs)) ∙ none)

-- an ensured directory is open
pub ensured_dirs_open_path : (path : Path) (null : ObjectId) (dirs : Dirs) → ensured_dirs path null dirs path ≢ None
ensured_dirs_open_path [] null dirs = λ none. cc none
ensured_dirs_open_path (name ∷ rest) null dirs = λ none. ensured_dirs_open_path rest null (in_dir name dirs)
    (sym (ap (λ (d : Dirs). d rest) (ensured_dirs_in_dir name rest null dirs))
    ∙ none)

-- the entry at a path below a directory is the one at the path from there
pub entry_at_in_path : (prefix : Path) (name : List ℕ) (path : Path) (dirs : Dirs) → entry_at (prefix ++ name ∷ path) dirs ≡ entry_at (name ∷ path)
    (in_path prefix dirs)
entry_at_in_path [] name path dirs = refl
entry_at_in_path (first ∷ rest) name path dirs = entry_at_in_dir first rest name path dirs ∙ entry_at_in_path rest name path (in_dir first dirs)
