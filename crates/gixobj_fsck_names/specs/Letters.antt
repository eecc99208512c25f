-- Letters as file systems that ignore case compare them.
use Rattle.std.specs.Prelude.{◌≡◌, ℕ, List, map}
use Rattle.std.specs.Char.{to_ascii_lowercase}

-- the ASCII code of a dot: `.`
abbrev pub dot : ℕ
dot = 46

-- the ASCII code of a space
abbrev pub space : ℕ
space = 32

-- the ASCII code of a slash: `/`
abbrev pub slash : ℕ
slash = 47

-- the ASCII code of a colon: `:`
abbrev pub colon : ℕ
colon = 58

-- the ASCII code of a backslash
abbrev pub backslash : ℕ
backslash = 92

-- the ASCII code of a tilde: `~`
abbrev pub tilde : ℕ
tilde = 126

-- the bytes spell the letters, which are no capitals, in any case: `.GiT` spells `.git`
abbrev pub Spells : List ℕ → List ℕ → Type 0
Spells bytes letters = map to_ascii_lowercase bytes ≡ letters
