use Rattle.std.proofs.Common.{◌≡◌, ◌++◌, length}
use Rattle.gixobj_editor_files.specs.Files.{Path}
use Rattle.gixobj_editor_open.specs.Paths.{names_of}
use Rattle.gixobj_editor_open.specs.Nested.{dirs_of}
use Rattle.gixobj_editor_open.specs.NewDirectories.{AreNew, nested_dirs}
use Rattle.gixobj_editor_open.proofs.new_directories.nested.Given as goal

abbrev pub invariant-names : goal.invariant-names
invariant-names l =
    (gone : Path) × (names_of l.path ≡ names_of l.remaining ++ gone)
    × ((at : Path) → dirs_of l.made at ≡ nested_dirs gone l.null (dirs_of l.fn.inner) at) × (AreNew l.fn.inner → AreNew l.made)

abbrev pub decreases-names : goal.decreases-names
decreases-names l = length l.remaining
