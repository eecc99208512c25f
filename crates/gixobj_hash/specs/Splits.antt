-- Splits of a byte string at each occurrence of a byte.
use Rattle.std.specs.Prelude.{◌≡◌, ◌++◌, ◌∷◌, ℕ, All, List, []}
use Rattle.std.specs.List.{flat_map}
use Rattle.gixobj_hash.specs.ByteStrings.{IsByteFree}

-- the part with the separator appended
abbrev pub ended : ℕ → List ℕ → List ℕ
ended byte part = part ++ byte ∷ []

-- the content splits into these parts at each occurrence of the byte, which no part has. The parts with the separator
-- appended to each make up the content with the separator appended
pub record IsSplitAtEach (byte : ℕ) (content : List ℕ) (parts : List (List ℕ)) : Type 0 where
  pub joined : ended byte content ≡ flat_map (ended byte) parts
  pub free : All (IsByteFree byte) parts
