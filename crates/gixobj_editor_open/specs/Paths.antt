-- The names of a path.
use Rattle.std.specs.Prelude.{List, All, map}
use Rattle.bstr.specs.Owned.{bstring_bytes}
use Rattle.bstr.specs.declared.bstring.BString.{BString}
use Rattle.gixobj_tree.specs.WellFormed.{IsEntryName}
use Rattle.gixobj_editor_files.specs.Files.{Path}

-- the names of a path, as bytes
abbrev pub names_of : List BString → Path
names_of path = map bstring_bytes path

-- each name of the path is one that an entry may have
abbrev pub AreNames : Path → Type 0
AreNames path = All IsEntryName path
