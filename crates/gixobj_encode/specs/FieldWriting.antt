-- Encoding of header fields, and their rejected values (gitformat-signature, "Commit signatures").
use Rattle.std.specs.Prelude.{◌≡◌, ◌⊎◌, ℕ, List, [], ◌∷◌, ◌++◌, ◌==◌, Contains, if◌then◌else◌}
use Rattle.std.specs.List.{count_by, flat_map}
use Rattle.gixobj_hash.specs.ByteStrings.{IsByteFree}
use Rattle.gixobj_hash.specs.HeaderFormat.{Header, encode_continuation}
use Rattle.gixobj_hash.specs.FieldFormat.{encode_line}
use Rattle.gixobj_streams.specs.Writing.{RejectedValue, empty_header, header_with_newline}
use Rattle.gixobj_hash.specs.Bytes.{newline, space}

-- the lines of a value without their newlines: the first line, and the lines after it; a final newline ends the last
-- line
abbrev pub value_lines : List ℕ → List ℕ × List (List ℕ)
value_lines [] = ([], [])
value_lines (byte ∷ []) = if byte == newline then ([], []) else (byte ∷ [], [])
value_lines (byte ∷ next ∷ rest) =
    if byte == newline then ([], (value_lines (next ∷ rest)).0 ∷ (value_lines (next ∷ rest)).1) else
    (byte ∷ (value_lines (next ∷ rest)).0, (value_lines (next ∷ rest)).1)

-- the encoding of a header's value: its first line, and the other lines as continuation lines
abbrev pub folded : List ℕ → List ℕ
folded value = encode_line (value_lines value).0 ++ flat_map encode_continuation (value_lines value).1

-- the encoding of a header: the name, a space, and the folded value
abbrev pub encode_header : Header → List ℕ
encode_header header = header.name ++ space ∷ folded header.value

-- a value of one line is rejected if it is empty or has a newline
abbrev pub IsValueError : List ℕ → RejectedValue → Type 0
IsValueError value rejected = ((value ≡ []) × (rejected ≡ empty_header))
    ⊎ (Contains value newline × (rejected ≡ header_with_newline value))

-- a single-line field is rejected before any byte of it
abbrev pub IsFieldError : List ℕ → RejectedValue → List ℕ → Type 0
IsFieldError value rejected parts = IsValueError value rejected × (parts ≡ [])

-- the value is a last line: no byte follows a newline in it
abbrev pub IsLastLine : List ℕ → Type 0
IsLastLine value = IsByteFree newline value
    ⊎ ((line : List ℕ) × (value ≡ line ++ newline ∷ []) × IsByteFree newline line)

-- the number of newlines
abbrev pub newlines : List ℕ → ℕ
newlines bytes = count_by (λ byte. byte == newline) bytes
