-- The files that accepted steps make of a set of files.
use Rattle.std.specs.Prelude.{ℕ, List, [], ◌∷◌}
use Rattle.gixobj_tree_entries.specs.Entries.{EntryView}
use Rattle.gixobj_hash.specs.declared.hash.object_id.ObjectId.{ObjectId}
use Rattle.gixobj_editor_files.specs.Files.{Ensured, FileSet, Files, Path, Removed, Table, Upserted}

-- an accepted step: an upsert at a path, a removal at a path, a directory ensured at a path, or a new root
pub data Step : Type 0 where
  upsert : Path → ℕ → ObjectId → Step
  remove : Path → Step
  ensure : Path → Step
  set_root : List EntryView → Step

-- the files after one step
abbrev pub after_step : Table → ℕ → Step → FileSet → FileSet
after_step T n (upsert path mode id) files = Upserted T n path mode id files
after_step T n (remove path) files = Removed path files
after_step T n (ensure path) files = Ensured path files
after_step T n (set_root entries) files = Files T n entries

-- the files after the steps, in order; writes and failed calls are no steps, since they leave the files unchanged
abbrev pub FilesAfter : Table → ℕ → List Step → FileSet → FileSet
FilesAfter T n [] files = files
FilesAfter T n (step ∷ steps) files = FilesAfter T n steps (after_step T n step files)
