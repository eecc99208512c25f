-- The counts of the lines of a run.
use Rattle.std.specs.Prelude.{◌≡◌, ℕ, Bool, if◌then◌else◌, false, List}
use Rattle.std.specs.List.{list_any}
use Rattle.gixobj_text.specs.BodyLines.{is_indented, is_git_generated}
use Rattle.gixobj_text.specs.Scanning.{is_below_trailer_after}
use Rattle.gixobj_text.specs.TrailerBlocks.{counts_as_trailer, count_others, trailer_count}
use Rattle.gixobj_text.specs.declared.commit.message.body.line_counts.LineCounts.{LineCounts}

-- what a line adds to the number of other lines; `above` is whether the last line before it that isn't indented counts
-- as a trailer
abbrev pub other_count_of : Bool → List ℕ → ℕ
other_count_of above line =
    if counts_as_trailer line then 0
    else if is_indented line then (if above then 0 else 1)
    else 1

-- the counts of this run
pub record Counts (run : List (List ℕ)) (it : LineCounts) : Type 0 where
  pub trailers : it.trailers ≡ trailer_count run
  pub others : it.others ≡ count_others false run
  pub recognised : it.recognised ≡ list_any is_git_generated run
  pub above : it.above ≡ is_below_trailer_after false run
