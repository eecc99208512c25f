-- The invariant of stored entries after an edit.
use Rattle.std.proofs.Common.{◌≡◌, ◌⊎◌, ◌≤◌, ◌+◌, ◌-◌, ℕ, Bool, true, false, cond, List, [], ◌∷◌, inl, inr, length, refl, ap, arith}
use Rattle.gixobj_tree_entries.specs.Entries.{EntryView}
use Rattle.gixobj_tree.specs.WellFormed.{IsWellFormed}
use Rattle.gixobj_editor_entries.specs.Pieces.{AreNonEmpty, joined}
use Rattle.gixobj_editor_files.specs.OpenEntries.{IsStored}

nil_of_short : {Y : Type 0} (rest : List Y) → length rest ≤ 0 → rest ≡ []
nil_of_short [] short = refl
nil_of_short (p ∷ rest) short = absurd (omega (arith, short))

module _ {Y : Type 0} (more rest : List Y) (short : length rest ≤ length more) (n m room : ℕ) (le : m ≤ n) where
  has_room_of_le : (more ≡ []) ⊎ (n ≤ room) → (rest ≡ []) ⊎ (m ≤ room)
  has_room_of_le (inl none) = inl (nil_of_short rest (omega (arith, ap length none)))
  has_room_of_le (inr room_for) = inr (omega (arith, room_for))

module _ {Y : Type 0} (items : Y → List EntryView) (more : List Y) (n : ℕ) where
  pub is_stored_of_edit : (first : List EntryView) (rest : List Y) (spare : List EntryView) (room len : ℕ) → IsWellFormed (joined items first rest)
      → AreNonEmpty items rest → spare ≡ [] → length rest ≤ length more → (more ≡ []) ⊎ (n ≤ room) → length (joined items first rest) ≤ n
      → len ≡ length (joined items first rest) → IsStored items first rest spare room len
  is_stored_of_edit first rest spare room len formed filled empty short has le count = record {
    formed = formed;
    non_empty = filled;
    spare_empty = empty;
    has_room = has_room_of_le more rest short n (length (joined items first rest)) room le has;
    counted = count;
  }

-- the number of entries after an insertion and a removal
pub len_of_edits : (added removed : Bool) (n m k a b : ℕ) → a ≡ cond added 1 0 → b ≡ cond removed 1 0 → m ≡ n + cond added 1 0
    → k + cond removed 1 0 ≡ m → (k ≤ n + 1) × (n + a - b ≡ k)
len_of_edits true true n m k a b p q r s = (omega (arith, r, s), omega (arith, p, q, r, s))
len_of_edits true false n m k a b p q r s = (omega (arith, r, s), omega (arith, p, q, r, s))
len_of_edits false true n m k a b p q r s = (omega (arith, r, s), omega (arith, p, q, r, s))
len_of_edits false false n m k a b p q r s = (omega (arith, r, s), omega (arith, p, q, r, s))
