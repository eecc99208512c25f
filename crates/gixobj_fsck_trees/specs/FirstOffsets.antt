-- Offsets of the first entries of a tree that have a fault.
use Rattle.std.specs.Prelude.{◌≡◌, ◌⊎◌, ℕ, Option, MatchOption, List, [], ◌∷◌}
use Rattle.gixobj_fsck_trees.specs.RawEntries.{RawEntryView}
use Rattle.gixobj_fsck_trees.specs.TreeMessages.{StepsDown}

-- the offset, if there is one, has the property; else none has it
abbrev pub FindsOffset : (ℕ → Type 0) → Option ℕ → Type 0
FindsOffset IsAt found = MatchOption found ((offset : ℕ) → ¬ IsAt offset) IsAt

-- the offset of the first entry with the property
abbrev pub IsFirstOffset : (RawEntryView → Type 0) → List RawEntryView → ℕ → Type 0
IsFirstOffset P [] offset = ⊥
IsFirstOffset P (e ∷ entries) offset = (P e × (offset ≡ e.offset)) ⊎ ((¬ P e) × IsFirstOffset P entries offset)

-- the offset of the second of the first two neighbours that aren't in the order of names
abbrev pub IsStepOffset : List RawEntryView → ℕ → Type 0
IsStepOffset [] offset = ⊥
IsStepOffset (e ∷ []) offset = ⊥
IsStepOffset (e ∷ next ∷ entries) offset = (StepsDown e next × (offset ≡ next.offset))
    ⊎ ((¬ StepsDown e next) × IsStepOffset (next ∷ entries) offset)

-- the offset of the first entry whose name is seen already, or is that of an entry before it
abbrev pub IsRepeatOffset : (List ℕ → Type 0) → List RawEntryView → ℕ → Type 0
IsRepeatOffset Seen [] offset = ⊥
IsRepeatOffset Seen (e ∷ entries) offset = (Seen (e.name) × (offset ≡ e.offset))
    ⊎ ((¬ Seen (e.name)) × IsRepeatOffset (λ name. (name ≡ e.name) ⊎ Seen name) entries offset)

-- no name is seen
abbrev pub IsNoName : List ℕ → Type 0
IsNoName name = ⊥
