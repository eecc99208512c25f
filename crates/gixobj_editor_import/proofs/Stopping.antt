-- An import of a new importer that stopped.
use Rattle.std.proofs.Common.{inl, inr, List, [], ◌∷◌, None, ap, length, take}
use Rattle.gixobj_editor_import.specs.ByDigest.{AddsByDigest}
use Rattle.gixobj_editor_import.specs.Imports.{AreCommitsOf, HaveFilesOfNothing, IsNewImporter}
use Rattle.gixobj_editor_import.specs.Steps.{Stops}
use Rattle.gixobj_editor_import.specs.declared.import.ImportError.{ImportError}
use Rattle.gixobj_editor_import.specs.declared.import.Imported.{Imported}
use Rattle.gixobj_editor_import.specs.declared.import.Importer.{Importer}
use Rattle.gixobj_editor_import.specs.declared.import.Step.{Step}
use Rattle.gixobj_editor_import.proofs.Adding.{objects_of, rejected_adds, steps_add}
use Rattle.gixobj_editor_import.proofs.Committing.{commits_of_new}
use Rattle.gixobj_editor_import.proofs.Digests.{adds_by_digest_nil, adds_by_digest_append}
use Rattle.gixobj_editor_import.proofs.StepFiles.{files_of_new}
use Rattle.gixobj_editor_import.proofs.StoreFacts.{OfStores}
use Rattle.gixobj_store.specs.Stores.{StoreModel}

module _ {S : Type 0} (model : StoreModel S) (laws : OfStores) where
  pub stopped_adds : (old new : Importer S) (steps : List Step) (imported : List Imported) (error : ImportError) → Stops model old steps imported error new
      → AddsByDigest (objects_of model laws old) (objects_of model laws new)
  stopped_adds old new steps imported error (inl at) =
      adds_by_digest_append (objects_of model laws old) (objects_of model laws at.reached) (objects_of model laws new)
      (steps_add model laws old at.reached (take (length imported) steps) imported at.imported)
      (rejected_adds model laws at.reached new at.failed_step error at.cause)
  stopped_adds old new steps imported error (inr nothing) = adds_by_digest_nil _ _ (ap (objects_of model laws) nothing.unchanged)

  pub commits_of_stopped : (old new : Importer S) (steps : List Step) (imported : List Imported) (error : ImportError)
      → Stops model old steps imported error new → IsNewImporter old
      → AreCommitsOf old.hash None (take (length imported) steps) imported (objects_of model laws new)
  commits_of_stopped old new steps imported error (inl at) is =
      commits_of_new model laws old at.reached (take (length imported) steps) imported at.imported is (objects_of model laws new)
      (rejected_adds model laws at.reached new at.failed_step error at.cause)
  commits_of_stopped old new steps [] error (inr nothing) is = tt
  commits_of_stopped old new steps (it ∷ imported) error (inr nothing) is = cc nothing.nothing

  pub files_of_stopped : (old new : Importer S) (steps : List Step) (imported : List Imported) (error : ImportError) → Stops model old steps imported error new
      → IsNewImporter old
      → HaveFilesOfNothing (objects_of model laws old) (take (length imported) steps) imported
  files_of_stopped old new steps imported error (inl at) is = files_of_new model laws old at.reached (take (length imported) steps) imported at.imported is
  files_of_stopped old new steps [] error (inr nothing) is = λ T n agrees k it at. cc at
  files_of_stopped old new steps (first ∷ imported) error (inr nothing) is = cc nothing.nothing
