-- Lines, and single-line fields of headers (gitdatamodel, "commits" and "tag objects").
use Rattle.std.specs.Prelude.{ℕ, List, [], ◌∷◌, ◌++◌}
use Rattle.gixobj_hash.specs.Bytes.{newline, space}

-- a line: its bytes and a newline
abbrev pub encode_line : List ℕ → List ℕ
encode_line line = line ++ newline ∷ []

-- a single-line field: its name, a space, its value and a newline
abbrev pub encode_field : List ℕ → List ℕ → List ℕ
encode_field name value = name ++ space ∷ encode_line value
