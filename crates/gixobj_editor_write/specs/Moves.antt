-- What is open in the directories of a list, moved on by one: the first gets another, and that of the last comes out.
use Rattle.std.specs.Prelude.{List, [], ◌∷◌}
use Rattle.gixobj_editor_open.specs.Nested.{Opened, Part}

-- the directories, each with what was open in the one before it, and the first with this
abbrev pub moved_on : Opened → List Part → List Part
moved_on first [] = []
moved_on first (p ∷ ps) = (p.0, first) ∷ moved_on p.1 ps

-- what was open in the last of them, and this if there is none
abbrev pub moved_out : Opened → List Part → Opened
moved_out first [] = first
moved_out first (p ∷ ps) = moved_out p.1 ps
