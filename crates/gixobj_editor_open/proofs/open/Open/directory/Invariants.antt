use Rattle.std.proofs.Common.{◌≡◌, ◌++◌, drop}
use Rattle.gixobj_editor_files.specs.Files.{Path}
use Rattle.gixobj_editor_open.specs.Paths.{names_of}
use Rattle.gixobj_editor_open.specs.Nested.{dirs_of}
use Rattle.gixobj_editor_open.proofs.open.Open.directory.Given as goal

-- what is open at and below the path is what is open in this directory at and below the names that remain
abbrev pub invariant-loop-name : goal.invariant-loop-name
invariant-loop-name l = (at : Path) → dirs_of l.fn.self (names_of l.path ++ at) ≡ dirs_of l.here (names_of (drop l.name-index l.path) ++ at)
