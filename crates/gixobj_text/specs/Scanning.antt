-- What a scan knows of the lines of a run and of a trailer line.
use Rattle.std.specs.Prelude.{Bool, true, false, if◌then◌else◌, List, [], ◌∷◌, ℕ, Option, Some, None}
use Rattle.std.specs.Borrow.{Bor}
use Rattle.gixobj_text.specs.BodyLines.{TrailerParts, is_indented}
use Rattle.gixobj_text.specs.TrailerBlocks.{counts_as_trailer}

-- after these lines, the last line that isn't indented counts as a trailer; `above` says so before them
abbrev pub is_below_trailer_after : Bool → List (List ℕ) → Bool
is_below_trailer_after above [] = above
is_below_trailer_after above (line ∷ run) =
    if counts_as_trailer line then is_below_trailer_after true run
    else if is_indented line then is_below_trailer_after above run
    else is_below_trailer_after false run

-- the parts of a trailer line, as lists
abbrev pub read_parts : Option (Bor (List ℕ) × Bor (List ℕ)) → Option TrailerParts
read_parts None = None
read_parts (Some it) = Some (it.0.now, it.1.now)
