-- Histories of equal sets of files are equal, and a history continues another.
use Rattle.std.proofs.Common.{ℕ, List, [], ◌∷◌, ◌++◌}
use Rattle.gixobj_editor_files.proofs.EditedFiles.{ensured_congruent, same_files_refl, removed_congruent, same_files_sym, same_files_trans, upserted_congruent}
use Rattle.gixobj_editor_files.specs.Files.{FileSet, Files, SameFiles, Table}
use Rattle.gixobj_editor_files.specs.History.{FilesAfter, Step, after_step, ensure, remove, set_root, upsert}

pub step_congruent : (T : Table) (n : ℕ) (step : Step) (A B : FileSet) → SameFiles A B → SameFiles (after_step T n step A) (after_step T n step B)
step_congruent T n (upsert path mode id) A B same = upserted_congruent T n path mode id A B same
step_congruent T n (remove path) A B same = removed_congruent path A B same
step_congruent T n (ensure path) A B same = ensured_congruent path A B same
step_congruent T n (set_root entries) A B same = same_files_refl (Files T n entries)

-- equal sets of files have equal histories
pub history_congruent : (T : Table) (n : ℕ) (steps : List Step) (A B : FileSet) → SameFiles A B → SameFiles (FilesAfter T n steps A) (FilesAfter T n steps B)
history_congruent T n [] A B same = same
history_congruent T n (step ∷ steps) A B same = history_congruent T n steps (after_step T n step A) (after_step T n step B) (step_congruent T n step A B same)

-- the history of appended steps is the history of the second after that of the first
pub history_append : (T : Table) (n : ℕ) (first then : List Step) (A : FileSet)
    → SameFiles (FilesAfter T n (first ++ then) A) (FilesAfter T n then (FilesAfter T n first A))
history_append T n [] then A = same_files_refl (FilesAfter T n then A)
history_append T n (step ∷ first) then A = history_append T n first then (after_step T n step A)

-- the files after these steps, and after further steps, are those of both
pub history_append_same_files : (T : Table) (n : ℕ) (first then : List Step) (A B C : FileSet) → SameFiles B (FilesAfter T n first A)
    → SameFiles C (FilesAfter T n then B)
    → SameFiles C (FilesAfter T n (first ++ then) A)
history_append_same_files T n first then A B C before after =
    same_files_trans C (FilesAfter T n then B) (FilesAfter T n (first ++ then) A) after
    (same_files_trans (FilesAfter T n then B) (FilesAfter T n then (FilesAfter T n first A)) (FilesAfter T n (first ++ then) A)
    (history_congruent T n then B (FilesAfter T n first A) before)
    (same_files_sym (FilesAfter T n (first ++ then) A) (FilesAfter T n then (FilesAfter T n first A)) (history_append T n first then A)))
