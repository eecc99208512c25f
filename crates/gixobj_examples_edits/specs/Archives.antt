-- The commits and the files of an imported history, its last commit, and its errors.
use Rattle.std.specs.Prelude.{◌≡◌, ◌++◌, ◌∷◌, ℕ, All, List, [], None, Option, length}
use Rattle.gix_object.specs.Commit.{DecodesToCommit}
use Rattle.gix_object.specs.Commits.{step_commit, encode_step}
use Rattle.gix_object.specs.Files.{NamedFiles, SameFiles, Table, Trees}
use Rattle.gix_object.specs.Hash.{id_of}
use Rattle.gix_object.specs.History.{FilesAfter}
use Rattle.gix_object.specs.Imports.{AgreesWithImports, AreCommitsOf, HaveFiles, IsNewImporter, edits_of}
use Rattle.gix_object.specs.Imports.{pairs_of_imports}
use Rattle.gix_object.specs.Keeping.{KeepCommitErrors, KeepErrors}
use Rattle.gix_object.specs.Openings.{OfTrees}
use Rattle.gix_object.specs.PlainHistory.{NoFiles}
use Rattle.gix_object.specs.RunTables.{DecodesToItself}
use Rattle.gix_object.specs.StepCauses.{HasImportCause}
use Rattle.gix_object.specs.Steps.{Stops}
use Rattle.gix_object.specs.Stores.{Objects, StoreModel}
use Rattle.gix_object.specs.Tables.{IsConsistentWith}
use Rattle.gix_object.specs.hash.hash.kind.Kind as hash
use Rattle.gix_object.specs.hash.hash.object_id.ObjectId.{ObjectId}
use Rattle.gix_object.specs.hash.kind.Kind.TheVariants.{Commit}
use Rattle.gix_object.specs.import.import.ImportError.{ImportError}
use Rattle.gix_object.specs.import.import.Imported.{Imported}
use Rattle.gix_object.specs.import.import.Importer.{Importer}
use Rattle.gix_object.specs.import.import.Step.{Step}

-- the emitted trees of an import are consistent with these trees, and each decodes to itself
pub record IsConsistentImport (imported : List Imported) (trees : Trees) : Type 0 where
  pub emitted : IsConsistentWith (pairs_of_imports imported) trees
  pub decoded : All DecodesToItself (pairs_of_imports imported)

-- in some table that agrees with the import, the tree of each commit has, at every depth, exactly the files that the
-- edits of the steps so far make of none
pub record HaveFilesInTable (objects : Objects) (steps : List Step) (imported : List Imported) : Type 0 where
  pub table : Table
  pub agrees : AgreesWithImports table objects None steps imported
  pub files : (n : ℕ) → HaveFiles table n NoFiles steps imported

-- an archived history: each step has its commit, on the commit of the step before. The tree of each commit has the
-- files of its steps, if the emitted trees are consistent with the store's trees before the import
pub record IsArchived (hash : hash.Kind) (before : Objects) (steps : List Step) (imported : List Imported)
    (after : Objects) : Type 0 where
  pub commits : AreCommitsOf hash None steps imported after
  pub files : OfTrees before (λ trees. IsConsistentImport imported trees → HaveFilesInTable before steps imported)

-- the commit's id is the digest of this step's encoding, with its tree and a parent or none; the encoding decodes to
-- the step's commit
pub record IsOfStep (hash : hash.Kind) (step : Step) (it : Imported) : Type 0 where
  pub parent : Option ObjectId
  pub id : it.commit ≡ id_of hash Commit (encode_step step it.written.id parent)
  pub decodes : DecodesToCommit hash (encode_step step it.written.id parent) (step_commit step it.written.id parent)

-- the last import: after one import for each earlier step, it is that of the last step. Its tree has, at every depth,
-- exactly the files that the edits of all steps make of none; this holds in every table that agrees with the store and
-- the imports
pub record IsTip (objects : Objects) (hash : hash.Kind) (steps : List Step) (tip : Imported) : Type 0 where
  pub before : List Step
  pub last : Step
  pub all : steps ≡ before ++ last ∷ []
  pub earlier : List Imported
  pub one_each : length earlier ≡ length before
  pub commit : IsOfStep hash last tip
  pub files : (T : Table) (n : ℕ) → AgreesWithImports T objects None steps (earlier ++ tip ∷ [])
      → SameFiles (NamedFiles T n tip.written.id) (FilesAfter T n (edits_of steps) NoFiles)

-- why an archive fails: on a new importer over this store, the import of the steps stops with this error
pub record IsArchiveError {S : Type 0} (model : StoreModel S) (store : S) (hash : hash.Kind) (steps : List Step)
    (error : ImportError) : Type 0 where
  pub start : Importer S
  pub after : Importer S
  pub done : List Imported
  pub is_new : IsNewImporter start
  pub over : start.editor.store ≡ store
  pub ids : start.hash ≡ hash
  pub stops : Stops model start steps done error after

-- the cause of that error: it is that of the import, by a new importer over this store
pub record HasArchiveCause {S : Type 0} (model : StoreModel S) (tree_errors : KeepErrors S)
    (commit_errors : KeepCommitErrors S) (store : S) (hash : hash.Kind) (steps : List Step) (error : ImportError)
    : Type 0 where
  pub start : Importer S
  pub after : Importer S
  pub done : List Imported
  pub is_new : IsNewImporter start
  pub over : start.editor.store ≡ store
  pub ids : start.hash ≡ hash
  pub cause : HasImportCause model tree_errors commit_errors start steps done error after
