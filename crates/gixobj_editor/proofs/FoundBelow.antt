-- The entry at a path from a directory is that at the path from the root.
use Rattle.std.proofs.Common.{◌≡◌, ◌∙◌, [], ◌∷◌, ◌++◌, None, refl, sym, ap}
use Rattle.gixobj_editor_open.proofs.Steps.{entry_at_none}
use Rattle.gixobj_editor_files.specs.Edits.{entry_at}
use Rattle.gixobj_editor_files.specs.Files.{Path}
use Rattle.gixobj_editor_files.specs.Opening.{Dirs, in_path}
use Rattle.gixobj_editor_files.proofs.OpenPrefixes.{entry_at_in_path}
use Rattle.gixobj_editor_lookups.specs.EditNames.{from_root}

pub entry_at_from_root : (prefix path : Path) (dirs inner : Dirs) → ((at : Path) → inner at ≡ dirs (prefix ++ at))
    → entry_at path inner ≡ entry_at (from_root prefix path) dirs
entry_at_from_root prefix [] dirs inner is = refl
entry_at_from_root prefix (name ∷ path) dirs inner is =
    let same : inner ≡ in_path prefix dirs = λ i at. is at i in
    ap (entry_at (name ∷ path)) same ∙ sym (entry_at_in_path prefix name path dirs)

pub entry_at_from_root_none : (prefix path : Path) (dirs : Dirs) → ((at : Path) → dirs (prefix ++ at) ≡ None) → None ≡ entry_at (from_root prefix path) dirs
entry_at_from_root_none prefix path dirs none = sym (entry_at_none path) ∙ entry_at_from_root prefix path dirs (λ _. None) (λ at. sym (none at))
