-- The files that steps make of none, if no tree is upserted and no root but the empty one is set. They need no table,
-- and no bound on their paths.
use Rattle.std.specs.Prelude.{◌≡◌, ◌⊎◌, List, [], ◌∷◌, ℕ, ⊤, IsFalse, false}
use Rattle.gixobj_hash.specs.declared.hash.object_id.ObjectId.{ObjectId}
use Rattle.gixobj_tree_entries.specs.Mode.{is_tree_mode}
use Rattle.gixobj_editor_files.specs.Files.{Ensured, Begins, FileSet, Path, Removed, is_null}
use Rattle.gixobj_editor_files.specs.History.{Step, ensure, remove, set_root, upsert}

-- the step upserts no tree, and sets no root but the empty one
abbrev pub HasNoTree : Step → Type 0
HasNoTree (upsert path mode id) = is_tree_mode mode ≡ false
HasNoTree (remove path) = ⊤
HasNoTree (ensure path) = ⊤
HasNoTree (set_root entries) = entries ≡ []

-- the set without files
abbrev pub NoFiles : FileSet
NoFiles path mode id = ⊥

-- a file upserted at `p` drops the files at and below `p`, and those at the path of a parent directory of `p`; it is
-- added unless its id is null; a path without names changes nothing
abbrev pub FileInserted : Path → ℕ → ObjectId → FileSet → FileSet
FileInserted [] mode id files = files
FileInserted (name ∷ p) mode id files = λ path mode' id'.
    (files path mode' id' × (¬ Begins (name ∷ p) path) × (¬ Begins path (name ∷ p)))
    ⊎ (IsFalse (is_null id) × (path ≡ name ∷ p) × (mode' ≡ mode) × (id' ≡ id))

-- the files after one step
abbrev pub after_plain_step : Step → FileSet → FileSet
after_plain_step (upsert path mode id) files = FileInserted path mode id files
after_plain_step (remove path) files = Removed path files
after_plain_step (ensure path) files = Ensured path files
after_plain_step (set_root entries) files = NoFiles

-- the files after the steps, in order
abbrev pub PlainFilesAfter : List Step → FileSet → FileSet
PlainFilesAfter [] files = files
PlainFilesAfter (step ∷ steps) files = PlainFilesAfter steps (after_plain_step step files)
