use Rattle.std.proofs.Common.{◌≡◌, ◌<◌, ◌≤◌, ◌+◌, ◌-◌, ℕ, IsTrue, get_or, length}
use Rattle.std.specs.Prelude.{◌↔◌}
use Rattle.gixobj_fsck.specs.Headers.{HasEmptyLineAt}
use Rattle.gixobj_fsck.proofs.headers.check_header_from.Given as goal

abbrev pub invariant-loop-at : goal.invariant-loop-at
invariant-loop-at l =
    (l.at ≤ length l.input)
    × ((k : ℕ) → k < l.at → get_or l.input k 0 ≡ 0 → ⊥)
    × ((k : ℕ) → k + 1 < l.at → HasEmptyLineAt l.input k → ⊥)
    × (IsTrue l.follows_newline ↔ ((k : ℕ) × (k + 1 ≡ l.at) × (get_or l.input k 0 ≡ 10)))

abbrev pub decreases-loop-at : goal.decreases-loop-at
decreases-loop-at l = length l.input - l.at
