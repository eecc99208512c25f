-- The header of a commit or a tag, which an empty line ends (git-fsck, "FSCK MESSAGES": nulInHeader,
-- unterminatedHeader).
use Rattle.std.specs.Prelude.{◌≡◌, ◌≢◌, ◌==◌, ◌+◌, ◌<◌, ◌≤◌, ◌⊎◌, ℕ, List, Result, Ok, Err, length, map, slice_index}
use Rattle.std.specs.Simd.Lanes.{chunk, mask_l}
use Rattle.gixobj_hash.specs.Bytes.{newline}
use Rattle.gixobj_fsck_messages.specs.declared.message.Message.{Message}
use Rattle.gixobj_fsck_messages.specs.declared.message.Message.TheVariants as message

-- two newlines are in a row, the first at this position
abbrev pub HasEmptyLineAt : List ℕ → ℕ → Type 0
HasEmptyLineAt input position = (slice_index input position ≡ newline) × (slice_index input (position + 1) ≡ newline)

-- there are two newlines in a row
abbrev pub HasEmptyLine : List ℕ → Type 0
HasEmptyLine input = (position : ℕ) × HasEmptyLineAt input position

-- a zero byte comes before which there is no empty line
abbrev pub HasZeroInHeader : List ℕ → Type 0
HasZeroInHeader input = (position : ℕ) × (position < length input) × (slice_index input position ≡ 0)
    × ((earlier : ℕ) → earlier + 1 < position → ¬ HasEmptyLineAt input earlier)

-- no byte at the positions from the first up to the second is zero or begins an empty line
abbrev pub IsPlainBetween : List ℕ → ℕ → ℕ → Type 0
IsPlainBetween input first second = (position : ℕ) → first ≤ position → position < second
    → (slice_index input position ≢ 0) × (¬ HasEmptyLineAt input position)

-- the number whose bits are 1 for those of the 32 bytes from the position on that are this byte
abbrev pub marks_from : List ℕ → ℕ → ℕ → ℕ
marks_from input position byte = mask_l (map (λ it. it == byte) (chunk position 32 input))

-- the input ends in a newline
abbrev pub EndsInNewline : List ℕ → Type 0
EndsInNewline input = (position : ℕ) × (position + 1 ≡ length input) × (slice_index input position ≡ newline)

-- the header has no end: there is no empty line, and the last byte isn't a newline
abbrev pub IsUnterminated : List ℕ → Type 0
IsUnterminated input = (¬ HasEmptyLine input) × (¬ EndsInNewline input)

-- the header is sound, and the input as before is checked further; or it has a fault
abbrev pub HeaderPart : List ℕ → Result (List ℕ) Message → Type 0
HeaderPart input (Ok rest) = (¬ HasZeroInHeader input) × (¬ IsUnterminated input) × (rest ≡ input)
HeaderPart input (Err fault) = (HasZeroInHeader input × (fault ≡ message.NulInHeader))
    ⊎ ((¬ HasZeroInHeader input) × IsUnterminated input × (fault ≡ message.UnterminatedHeader))
