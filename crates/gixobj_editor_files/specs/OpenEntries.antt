-- The entries of an open directory, in pieces.
use Rattle.std.specs.Prelude.{◌≡◌, ◌⊎◌, ◌≤◌, ℕ, List, [], length}
use Rattle.gixobj_tree_entries.specs.Entries.{EntryView}
use Rattle.gixobj_tree.specs.WellFormed.{IsWellFormed}
use Rattle.gixobj_editor_entries.specs.Pieces.{AreNonEmpty, joined}

-- the invariant of stored entries: they are well-formed, no piece but the first is empty, their number is `len`, and an
-- empty spare list has capacity for all of them unless they are one piece
pub record IsStored {Y : Type 0} (items : Y → List EntryView) (first : List EntryView) (more : List Y)
    (spare : List EntryView) (room : ℕ) (len : ℕ) : Type 0 where
  pub formed : IsWellFormed (joined items first more)
  pub non_empty : AreNonEmpty items more
  pub spare_empty : spare ≡ []
  pub has_room : (more ≡ []) ⊎ (length (joined items first more) ≤ room)
  pub counted : len ≡ length (joined items first more)
