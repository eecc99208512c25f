-- Buffers of the caller, and what a call writes in them.
use Rattle.std.specs.Prelude.{◌≡◌, ◌<◌, ◌⊎◌, ◌++◌, ℕ, List, drop, length}
use Rattle.gixobj_c_codes.specs.Codes.{buffer_too_short, done}

-- the buffer begins with these bytes, and is otherwise unchanged
abbrev pub HasPrefix : List ℕ → List ℕ → List ℕ → Type 0
HasPrefix bytes before after = after ≡ bytes ++ drop (length bytes) before

-- the bytes are written at the beginning of the buffer; a buffer that is too short is unchanged
abbrev pub WritesPrefix : List ℕ → List ℕ → List ℕ → ℕ → Type 0
WritesPrefix bytes before after status = ((status ≡ done) × HasPrefix bytes before after)
    ⊎ ((status ≡ buffer_too_short) × (length before < length bytes) × (after ≡ before))

-- the number of bytes is written, and the bytes if the buffer is long enough
abbrev pub WritesBytes : List ℕ → List ℕ → List ℕ → ℕ → ℕ → Type 0
WritesBytes bytes before after len status = (len ≡ length bytes) × WritesPrefix bytes before after status

-- both numbers of bytes are written, and the bytes if both buffers are long enough; otherwise both are unchanged
abbrev pub WritesTwo : List ℕ → List ℕ → List ℕ → ℕ → List ℕ → List ℕ → List ℕ → ℕ → ℕ → Type 0
WritesTwo first first_before first_after first_len second second_before second_after second_len status =
    (first_len ≡ length first) × (second_len ≡ length second)
    × (((status ≡ done) × HasPrefix first first_before first_after × HasPrefix second second_before second_after)
    ⊎ ((status ≡ buffer_too_short)
    × ((length first_before < length first) ⊎ (length second_before < length second))
    × (first_after ≡ first_before) × (second_after ≡ second_before)))
