-- The trailer block at the end of a body (git-interpret-trailers).
use Rattle.std.specs.Prelude.{◌≡◌, ◌≢◌, ◌⊎◌, ◌<◌, ◌≤◌, ◌+◌, ◌*◌, ℕ, Bool, true, false, if◌then◌else◌, List, [], ◌∷◌}
use Rattle.std.specs.Prelude.{◌++◌, ◌||◌, All, IsTrue, IsFalse, count_by, length}
use Rattle.std.specs.List.{concat, list_any}
use Rattle.bstr.specs.Text.{lines_of}
use Rattle.gixobj_text.specs.BodyLines.{is_blank, is_indented, is_git_generated, is_trailer_line, trimmed_line}

-- ---- the last run

-- there is no line, or the last is blank
abbrev pub EndsBlank : List (List ℕ) → Type 0
EndsBlank lines = (lines ≡ [])
    ⊎ ((prefix : List (List ℕ)) × (blank : List ℕ) × (lines ≡ prefix ++ blank ∷ []) × IsTrue (is_blank blank))

-- the last run: consecutive lines that aren't blank; lines before it end in a blank line, and all lines after it are
-- blank
pub record IsLastRun (lines before run after : List (List ℕ)) : Type 0 where
  pub joined : lines ≡ before ++ run ++ after
  pub some : run ≢ []
  pub none_blank : All (λ line. IsFalse (is_blank line)) run
  pub all_blank : All (λ line. IsTrue (is_blank line)) after
  pub ends : EndsBlank before

-- ---- the lines of a run

-- a line that counts as a trailer: git generates it, or it is a trailer line
abbrev pub counts_as_trailer : List ℕ → Bool
counts_as_trailer line = is_git_generated line || is_trailer_line line

-- the number of other lines: those that don't count as trailers, without indented lines that continue a trailer; an
-- indented line continues a trailer if the last unindented line before it counts as one; `above` is whether this holds
-- at the first line
abbrev pub count_others : Bool → List (List ℕ) → ℕ
count_others above [] = 0
count_others above (line ∷ run) =
    if counts_as_trailer line then count_others true run
    else if is_indented line then (if above then 0 else 1) + count_others above run
    else 1 + count_others false run

-- the number of lines that count as trailers
abbrev pub trailer_count : List (List ℕ) → ℕ
trailer_count run = count_by counts_as_trailer run

-- a trailer block: trailers and no other line; or a line that git generates, and at least one trailer for three other
-- lines
abbrev pub IsTrailerBlock : List (List ℕ) → Type 0
IsTrailerBlock run = ((0 < trailer_count run) × (count_others false run ≡ 0))
    ⊎ (IsTrue (list_any is_git_generated run) × (count_others false run ≤ 3 * trailer_count run))

-- ---- the start of a block

-- the offset after the content of the line before the final blank line; 0 without such a line
abbrev pub StartsAfter : List (List ℕ) → ℕ → Type 0
StartsAfter before start =
    ((before ≡ []) × (start ≡ 0))
    ⊎ ((blank : List ℕ) × (before ≡ blank ∷ []) × (start ≡ 0))
    ⊎ ((prefix : List (List ℕ)) × (line blank : List ℕ) × (before ≡ prefix ++ line ∷ blank ∷ [])
    × (start ≡ length (concat prefix) + length (trimmed_line line)))

-- the last run is a trailer block with this start
pub record HasBlock (lines : List (List ℕ)) (start : ℕ) : Type 0 where
  pub before : List (List ℕ)
  pub run : List (List ℕ)
  pub after : List (List ℕ)
  pub last : IsLastRun lines before run after
  pub block : IsTrailerBlock run
  pub starts : StartsAfter before start

-- there is no run, or the last one isn't a trailer block
abbrev pub HasNoBlock : List (List ℕ) → Type 0
HasNoBlock lines = (before run after : List (List ℕ)) → IsLastRun lines before run after → ¬ IsTrailerBlock run

-- the start of a body's trailer block; without a block the length of the body
abbrev pub IsTrailerBlockStart : List ℕ → ℕ → Type 0
IsTrailerBlockStart body start = HasBlock (lines_of body) start ⊎ (HasNoBlock (lines_of body) × (start ≡ length body))
