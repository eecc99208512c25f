-- Arguments of the program that request its commands on trees.
use Rattle.std.specs.Prelude.{List, ℕ, codes}
use Rattle.gixobj_cli_show.specs.Arguments.{IsCommand, IsOtherCommand}

-- the arguments request the run of a script
abbrev pub IsEditCommand : List (List ℕ) → Type 0
IsEditCommand arguments = IsCommand arguments (codes "edit")

-- the arguments request neither of `tree` and `edit`
abbrev pub IsNeitherCommand : List (List ℕ) → Type 0
IsNeitherCommand arguments = IsOtherCommand arguments (codes "tree") × IsOtherCommand arguments (codes "edit")
