-- New directories along a path: each is the only one in the directory above it.
use Rattle.std.specs.Prelude.{◌≡◌, [], ◌∷◌, None}
use Rattle.gixobj_hash.specs.declared.hash.object_id.ObjectId.{ObjectId}
use Rattle.gixobj_editor_files.specs.Bases.{base_edited}
use Rattle.gixobj_editor_files.specs.Edits.{only_open, with_dir, with_directory}
use Rattle.gixobj_editor_files.specs.Files.{Path}
use Rattle.gixobj_editor_files.specs.Opening.{Dirs}
use Rattle.gixobj_editor_open.specs.Nested.{Opened, bases_of, dirs_of}

-- new directories along the path, with these at and below the last
abbrev pub nested_dirs : Path → ObjectId → Dirs → Dirs
nested_dirs [] null last = last
nested_dirs (name ∷ rest) null last =
    with_dir name (nested_dirs rest null last) (only_open (with_directory name null []))

-- the base of each directory is empty, since an edit created it
abbrev pub AreNew : Opened → Type 0
AreNew ds = (at : Path) → bases_of ds at ≡ base_edited None (dirs_of ds at) None
