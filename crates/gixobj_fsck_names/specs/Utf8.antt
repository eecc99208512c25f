-- Characters in UTF-8, by the table of well-formed byte sequences of the Unicode standard (chapter 3, "Unicode encoding
-- forms"), without U+FFFE and U+FFFF, which git takes for no characters.
use Rattle.std.specs.Prelude.{◌≡◌, ◌⊎◌, ◌<◌, ◌≤◌, ℕ, List, [], ◌∷◌}

-- the byte is in this range
abbrev pub IsWithin : ℕ → ℕ → ℕ → Type 0
IsWithin low high byte = (low ≤ byte) × (byte ≤ high)

-- the byte continues a character
abbrev pub IsContinuation : ℕ → Type 0
IsContinuation byte = IsWithin 0x80 0xbf byte

-- the two bytes begin a character of three: it is not shorter in UTF-8, and no surrogate
abbrev pub AreFirstOfThree : ℕ → ℕ → Type 0
AreFirstOfThree first second = ((first ≡ 0xe0) × IsWithin 0xa0 0xbf second)
    ⊎ (IsWithin 0xe1 0xec first × IsContinuation second)
    ⊎ ((first ≡ 0xed) × IsWithin 0x80 0x9f second)
    ⊎ (IsWithin 0xee 0xef first × IsContinuation second)

-- the two bytes begin a character of four: it is not shorter in UTF-8, and at most U+10FFFF
abbrev pub AreFirstOfFour : ℕ → ℕ → Type 0
AreFirstOfFour first second = ((first ≡ 0xf0) × IsWithin 0x90 0xbf second)
    ⊎ (IsWithin 0xf1 0xf3 first × IsContinuation second)
    ⊎ ((first ≡ 0xf4) × IsWithin 0x80 0x8f second)

-- the bytes are U+FFFE or U+FFFF
abbrev pub IsNoncharacter : ℕ → ℕ → ℕ → Type 0
IsNoncharacter first second third = (first ≡ 0xef) × (second ≡ 0xbf) × (0xbe ≤ third)

-- the bytes begin with an ASCII character, as `a`
abbrev pub BeginsWithOne : List ℕ → Type 0
BeginsWithOne [] = ⊥
BeginsWithOne (first ∷ rest) = first < 0x80

-- the bytes begin with a character of two bytes, as `é`
abbrev pub BeginsWithTwo : List ℕ → Type 0
BeginsWithTwo (first ∷ second ∷ rest) = IsWithin 0xc2 0xdf first × IsContinuation second
BeginsWithTwo _ = ⊥

-- the bytes begin with a character of three bytes, as `€`
abbrev pub BeginsWithThree : List ℕ → Type 0
BeginsWithThree (first ∷ second ∷ third ∷ rest) = AreFirstOfThree first second × IsContinuation third
    × (¬ IsNoncharacter first second third)
BeginsWithThree _ = ⊥

-- the bytes begin with a character of four bytes, as U+1F600
abbrev pub BeginsWithFour : List ℕ → Type 0
BeginsWithFour (first ∷ second ∷ third ∷ fourth ∷ rest) = AreFirstOfFour first second × IsContinuation third
    × IsContinuation fourth
BeginsWithFour _ = ⊥

-- the bytes begin with a character
abbrev pub BeginsWithCharacter : List ℕ → Type 0
BeginsWithCharacter bytes = BeginsWithOne bytes ⊎ BeginsWithTwo bytes ⊎ BeginsWithThree bytes ⊎ BeginsWithFour bytes
