-- The commits and files of an import of a list of steps.
use Rattle.std.specs.Prelude.{◌≡◌, ℕ, suc, false, List, [], ◌∷◌, Option, Some, None, length, slice_get, take}
use Rattle.std.specs.List.{flat_map}
use Rattle.gixobj_actor.specs.ActorWriting.{encode_owned_actor}
use Rattle.gixobj_store.specs.Stores.{Objects}
use Rattle.gixobj_editor_files.specs.Bases.{HasBases}
use Rattle.gixobj_editor_files.specs.Files.{FileSet, NamedFiles, SameFiles, Table}
use Rattle.gixobj_editor_files.specs.History as history
use Rattle.gixobj_editor_files.specs.State.{EditorFiles, State, new_state, open_bases, open_dirs}
use Rattle.gixobj_tree_entries.specs.Entries.{Pair}
use Rattle.gixobj_editor_files.specs.Tables.{AgreesWithPairs}
use Rattle.gixobj_hash.specs.Hash.{id_of}
use Rattle.gixobj_hash.specs.declared.hash.kind.Kind as hash
use Rattle.gixobj_hash.specs.declared.hash.object_id.ObjectId.{ObjectId}
use Rattle.gixobj_hash.specs.declared.kind.Kind.TheVariants.{Commit}
use Rattle.gixobj_store_keep.specs.Keeping.{with_commit, with_trees}
use Rattle.gixobj_grammar.specs.Commit.{DecodesToCommit}
use Rattle.gixobj_editor.specs.RunTables.{AgreesWithObjects}
use Rattle.gixobj_editor_import.specs.ByDigest.{NamesCommitOrCollision}
use Rattle.gixobj_editor_import.specs.Commits.{NamesSignature, step_commit, encode_step}
use Rattle.gixobj_editor_import.specs.Edited.{steps_if_done}
use Rattle.gixobj_editor_import.specs.declared.import.Imported.{Imported}
use Rattle.gixobj_editor_import.specs.declared.import.Importer.{Importer}
use Rattle.gixobj_editor_import.specs.declared.import.Step.{Step}
use Rattle.gixobj_editor_files.specs.PlainHistory.{NoFiles}

-- a new importer: it has no files and no commits, and hasn't failed
pub record IsNewImporter {S : Type 0} (importer : Importer S) : Type 0 where
  pub editor : importer.editor ≡ new_state [] importer.editor.store importer.hash
  pub last : importer.last ≡ None
  pub ready : importer.failed ≡ false

-- the steps of a history that the edits of these steps are, in order
abbrev pub edits_of : List Step → List history.Step
edits_of steps = flat_map (λ step. flat_map steps_if_done step.edits.items) steps

-- ---- a step

-- the table has the trees that the step emitted, agrees with the store before the step, and has the bases of the
-- editor's directories
pub record AgreesWithStep {S : Type 0} (T : Table) (objects : Objects) (editor : State S) (it : Imported) : Type 0 where
  pub writes : AgreesWithPairs T it.written.trees.items
  pub stores : AgreesWithObjects T objects
  pub bases : HasBases T (open_dirs editor) (open_bases editor)

-- the step's tree has, to each depth `n`, exactly the files that its edits make of the editor's; the editor continues
-- with these files
pub record HasFilesOf {S : Type 0} (T : Table) (n : ℕ) (old : State S) (step : Step) (it : Imported)
    (new : State S) : Type 0 where
  pub tree : SameFiles (NamedFiles T n it.written.id)
      (history.FilesAfter T n (edits_of (step ∷ [])) (EditorFiles T n old))
  pub continues : SameFiles (EditorFiles T n new) (NamedFiles T n it.written.id)

-- ---- a list of steps

-- the emitted ids, with their trees
abbrev pub pairs_of_imports : List Imported → List Pair
pairs_of_imports imported = flat_map (λ it. it.written.trees.items) imported

-- the objects of a store after the imports: the trees of each, and then its commit, are inserted
abbrev pub with_imports : Option ObjectId → List Step → List Imported → Objects → Objects
with_imports parent (step ∷ steps) (it ∷ imported) objects =
    with_imports (Some it.commit) steps imported
    (with_commit it.commit (encode_step step it.written.id parent) (with_trees it.written.trees.items objects))
with_imports parent steps imported objects = objects

-- the table has the trees of all emitted ids, and agrees with the store before each step
pub record AgreesWithImports (T : Table) (objects : Objects) (parent : Option ObjectId) (steps : List Step)
    (imported : List Imported) : Type 0 where
  pub writes : AgreesWithPairs T (pairs_of_imports imported)
  pub stores : (count : ℕ) → AgreesWithObjects T (with_imports parent (take count steps) (take count imported) objects)

-- the commit of a step. Its id is the digest of an encoding with the step's author, committer and message, and with the
-- commit before it as only parent. The store names this commit by the id, or another object with the same digest
pub record IsCommitOf (hash : hash.Kind) (parent : Option ObjectId) (step : Step) (it : Imported)
    (objects : Objects) : Type 0 where
  pub id : it.commit ≡ id_of hash Commit (encode_step step it.written.id parent)
  pub decodes : DecodesToCommit hash (encode_step step it.written.id parent) (step_commit step it.written.id parent)
  pub author : NamesSignature (encode_owned_actor step.author) step.author
  pub committer : NamesSignature (encode_owned_actor step.committer) step.committer
  pub stored : NamesCommitOrCollision objects it.commit (encode_step step it.written.id parent)

-- each step has its commit, on the commit of the step before; there is one import for each step
abbrev pub AreCommitsOf : hash.Kind → Option ObjectId → List Step → List Imported → Objects → Type 0
AreCommitsOf hash parent [] [] objects = Unit {0}
AreCommitsOf hash parent (step ∷ steps) (it ∷ imported) objects =
    IsCommitOf hash parent step it objects × AreCommitsOf hash (Some it.commit) steps imported objects
AreCommitsOf hash parent steps imported objects = ⊥

-- the tree of each commit has, to each depth `n`, exactly the files that the edits of the steps so far make of these
abbrev pub HaveFiles : Table → ℕ → FileSet → List Step → List Imported → Type 0
HaveFiles T n files steps imported =
    (k : ℕ) (it : Imported) → slice_get imported k ≡ Some it
    → SameFiles (NamedFiles T n it.written.id) (history.FilesAfter T n (edits_of (take (suc k) steps)) files)

-- the tree of each commit has, to every depth, exactly the files that the edits so far make of none. That holds in
-- every table that agrees with the store and with the emitted ids
abbrev pub HaveFilesOfNothing : Objects → List Step → List Imported → Type 0
HaveFilesOfNothing objects steps imported =
    (T : Table) (n : ℕ) → AgreesWithImports T objects None steps imported
    → HaveFiles T n NoFiles steps imported

-- the steps that were imported, before the one that failed
abbrev pub before : List Imported → List Step → List Step
before done steps = take (length done) steps
