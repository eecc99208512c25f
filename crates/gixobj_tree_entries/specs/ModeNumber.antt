-- The results of `try_from` for numbers and for bytes.
use Rattle.std.specs.Prelude.{◌≡◌, ℕ, List, Result, Ok, Err}
use Rattle.std.specs.Borrow.{Bor}
use Rattle.gixobj_tree_entries.specs.Mode.{BeginsWithMode, IsModeNumber, mode_bits}
use Rattle.gixobj_tree_entries.specs.declared.entry_mode.EntryMode.{EntryMode}

-- the mode of the number, or the number itself if it is not a mode
abbrev pub FromNumber : ℕ → Result EntryMode ℕ → Type 0
FromNumber number (Ok mode) = IsModeNumber number × (mode_bits mode ≡ number)
FromNumber number (Err back) = ¬ (IsModeNumber number) × (back ≡ number)

-- the mode at the beginning of the bytes, or the bytes themselves if they begin with none
abbrev pub FromBytes : Bor (List ℕ) → Result EntryMode (Bor (List ℕ)) → Type 0
FromBytes bytes (Ok mode) = (rest : List ℕ) × BeginsWithMode bytes.now (mode_bits mode) rest
FromBytes bytes (Err back) = ((mode : ℕ) (rest : List ℕ) → ¬ BeginsWithMode bytes.now mode rest)
    × (back.now ≡ bytes.now)
