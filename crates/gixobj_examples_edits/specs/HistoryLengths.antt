-- The number of commits of a history, by first parents (git-rev-list, `--count`).
use Rattle.std.specs.Prelude.{◌≡◌, ◌≤◌, ℕ, Bool, List, None, Option, Some, length}
use Rattle.gix_object.specs.Stores.{Objects}
use Rattle.gix_object.specs.hash.hash.object_id.ObjectId.{ObjectId}
use Rattle.gixobj_listings.specs.Histories.{IsLog, LoggedView, NeverFails}
use Rattle.gixobj_listings.specs.declared.history.LogEnd.{LogEnd}
use Rattle.gixobj_listings.specs.declared.history.LogEnd.TheVariants as end

-- the number of commits of a log that ends at a root commit; none for another log
abbrev pub len_to_root : List LoggedView → LogEnd → Option ℕ
len_to_root commits end.Root = Some (length commits)
len_to_root commits (end.Unread id cause) = None
len_to_root commits (end.TooLong id) = None

-- the number is that of some log of the tip
abbrev pub IsLenOfLog : Objects → (ObjectId → Bool) → ℕ → ObjectId → Option ℕ → Type 0
IsLenOfLog objects may_fail max tip found = (commits : List LoggedView) × (it : LogEnd)
    × IsLog objects may_fail max tip commits it × (found ≡ len_to_root commits it)

-- if no lookup fails, the number is that of each log of the tip with at most this many commits
abbrev pub IsHistoryLen : Objects → (ObjectId → Bool) → ℕ → ObjectId → Option ℕ → Type 0
IsHistoryLen objects may_fail max tip found = NeverFails may_fail → (commits : List LoggedView) (it : LogEnd)
    → IsLog objects may_fail max tip commits it → length commits ≤ max → found ≡ len_to_root commits it
