-- Lemmas on sets of files and on histories, for proofs of callers. They range over all sets of files, so that no
-- contract can state them as a law.
pub use Rattle.gixobj_editor_files.proofs.EditedFiles.{same_files_refl, same_files_sym, same_files_trans, upserted_congruent}
pub use Rattle.gixobj_editor_files.proofs.Histories.{history_append, history_congruent}
