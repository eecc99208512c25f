-- The ASCII codes of the bytes that separate the parts of git's objects.
use Rattle.std.specs.Prelude.{◌+◌, ℕ}

-- a horizontal tab
abbrev pub tab : ℕ
tab = 9

-- a newline: line feed
abbrev pub newline : ℕ
newline = 10

-- a carriage return
abbrev pub carriage_return : ℕ
carriage_return = 13

-- a space
abbrev pub space : ℕ
space = 32

-- a plus: `+`
abbrev pub plus : ℕ
plus = 43

-- a minus: `-`
abbrev pub minus : ℕ
minus = 45

-- a slash: `/`
abbrev pub slash : ℕ
slash = 47

-- a less-than sign: `<`
abbrev pub less_than : ℕ
less_than = 60

-- a greater-than sign: `>`
abbrev pub greater_than : ℕ
greater_than = 62

-- the ASCII digit of a number below ten
abbrev pub digit : ℕ → ℕ
digit number = 48 + number
