-- The state of a scan over the lines of a body.
use Rattle.std.specs.Prelude.{◌≡◌, ◌⊎◌, ◌≤◌, ◌+◌, ℕ, true, false, List, [], ◌∷◌, ◌++◌, All, IsTrue, length}
use Rattle.std.specs.List.{concat}
use Rattle.bstr.specs.Text.{lines_of}
use Rattle.gixobj_text.specs.RunCounts.{Counts}
use Rattle.gixobj_text.specs.BodyLines.{is_blank, trimmed_line}
use Rattle.gixobj_text.specs.TrailerBlocks.{EndsBlank, IsLastRun, StartsAfter}
use Rattle.gixobj_text.specs.declared.commit.message.body.scan.Scan.{Scan}

-- the offset after the content of the last line; 0 without a line
abbrev pub EndsAfter : List (List ℕ) → ℕ → Type 0
EndsAfter lines end = ((lines ≡ []) × (end ≡ 0))
    ⊎ ((prefix : List (List ℕ)) × (line : List ℕ) × (lines ≡ prefix ++ line ∷ [])
    × (end ≡ length (concat prefix) + length (trimmed_line line)))

-- the last run of the lines: whether it continues, the start of its block, and its counts
pub record HasRun (lines : List (List ℕ)) (it : Scan) : Type 0 where
  pub before : List (List ℕ)
  pub run : List (List ℕ)
  pub after : List (List ℕ)
  pub last : IsLastRun lines before run after
  pub going : it.going ≡ true → after ≡ []
  pub starts : StartsAfter before it.start
  pub counts : Counts run it.run

-- the state of a scan after these lines
pub record Scanned (lines : List (List ℕ)) (it : Scan) : Type 0 where
  pub position : it.position ≡ length (concat lines)
  pub last : EndsAfter lines it.last
  pub next : it.going ≡ false → StartsAfter lines it.next × EndsBlank lines
  pub none : it.some ≡ false → All (λ line. IsTrue (is_blank line)) lines × (it.going ≡ false)
  pub some : it.some ≡ true → HasRun lines it

-- the state of a scan after one more line
abbrev pub AddsLine : Scan → List ℕ → Scan → Type 0
AddsLine before line after = (lines : List (List ℕ)) → Scanned lines before → Scanned (lines ++ line ∷ []) after

-- the scan has reached this rest of the body
pub record IsWalked (body rest : List ℕ) (it : Scan) : Type 0 where
  pub lines : List (List ℕ)
  pub joined : lines_of body ≡ lines ++ lines_of rest
  pub scanned : Scanned lines it
  pub position : it.position + length rest ≡ length body
  pub trailers : it.run.trailers ≤ it.position
  pub others : it.run.others ≤ it.position
