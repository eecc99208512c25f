-- An editor whose root alone is open.
use Rattle.std.proofs.Common.{◌≡◌, ℕ, List, [], sym, subst}
use Rattle.gixobj_tree_entries.specs.Entries.{EntryView}
use Rattle.gixobj_tree.specs.WellFormed.{IsWellFormed}
use Rattle.gixobj_editor_open.specs.Nested.{Opened, dirs_of, opened}
use Rattle.gixobj_editor_open.proofs.Steps.{dirs_of_childless}
use Rattle.gixobj_editor_files.specs.Files.{Files, SameFiles, Table}
use Rattle.gixobj_editor_files.specs.Opening.{Dirs, IsOpened, OpenFiles}
use Rattle.gixobj_editor_files.proofs.EditedFiles.{root_alone_files}
use Rattle.gixobj_editor_files.proofs.StillOpenedOpenings.{is_opened_of_only}
use Rattle.gixobj_editor.proofs.Edited.{map_bases, map_dirs}
use Rattle.gixobj_editor_files.specs.Bases.{HasBases}
use Rattle.gixobj_editor_files.proofs.Calls.{root_alone_has_bases}

pub root_alone_is_opened : (ds : Opened) (root : List EntryView) → ds ≡ opened root [] [] → IsWellFormed root → IsOpened (dirs_of ds)
root_alone_is_opened ds root is formed = subst (λ (d : Opened). IsOpened (dirs_of d)) (sym is)
    (subst (λ (d : Dirs). IsOpened d) (sym (dirs_of_childless root)) (is_opened_of_only root formed))

pub root_alone_open_files : (ds : Opened) (root : List EntryView) → ds ≡ opened root [] [] → (T : Table) (n : ℕ)
    → SameFiles (OpenFiles T n (map_dirs ds)) (Files T n root)
root_alone_open_files ds root is T n = subst (λ (d : Opened). SameFiles (OpenFiles T n (map_dirs d)) (Files T n root)) (sym is) (root_alone_files T n root)

pub root_alone_dirs_have_bases : (ds : Opened) (root : List EntryView) → ds ≡ opened root [] [] → (T : Table) → HasBases T (map_dirs ds) (map_bases ds)
root_alone_dirs_have_bases ds root is T = subst (λ (d : Opened). HasBases T (map_dirs d) (map_bases d)) (sym is)
    (root_alone_has_bases T (map_dirs (opened root [] [])))
