use Rattle.gix_object.specs.Files.{NamedFiles}
use Rattle.gix_object.specs.History.{FilesAfter}
use Rattle.gix_object.proofs.Files.{same_files_refl}
use Rattle.gixobj_listings.proofs.PairChanges.{are_changes_congruent}
use Rattle.gixobj_listings.proofs.laws.tree_changes_are_step_changes.Goals as goal

pub returns : goal.returns
returns c = λ T n from to steps changes same are.
    are_changes_congruent (NamedFiles T n from) (NamedFiles T n to) (NamedFiles T n from) (FilesAfter T n steps (NamedFiles T n from))
    (same_files_refl (NamedFiles T n from)) same changes are
