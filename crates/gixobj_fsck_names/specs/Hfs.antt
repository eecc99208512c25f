-- Names as HFS+ takes them (git-config, "core.protectHFS"): it ignores some code points, and the case of letters.
use Rattle.std.specs.Prelude.{◌≡◌, ◌⊎◌, ◌<◌, ℕ, List, [], ◌∷◌, ⊤}
use Rattle.std.specs.Char.{to_ascii_lowercase}
use Rattle.gixobj_fsck_names.specs.Letters.{slash}
use Rattle.gixobj_fsck_names.specs.Utf8.{BeginsWithCharacter, IsWithin}

-- the three bytes are the UTF-8 of a code point that HFS+ ignores: U+200C to U+200F, U+202A to U+202E, U+206A to U+206F
-- or U+FEFF
abbrev pub IsIgnored : ℕ → ℕ → ℕ → Type 0
IsIgnored first second third =
    ((first ≡ 0xe2) × (second ≡ 0x80) × (IsWithin 0x8c 0x8f third ⊎ IsWithin 0xaa 0xae third))
    ⊎ ((first ≡ 0xe2) × (second ≡ 0x81) × IsWithin 0xaa 0xaf third)
    ⊎ ((first ≡ 0xef) × (second ≡ 0xbb) × (third ≡ 0xbf))

-- the name is an ignored code point and the rest
abbrev pub IsIgnoredBefore : List ℕ → List ℕ → Type 0
IsIgnoredBefore rest name = (first second third : ℕ) × (name ≡ first ∷ second ∷ third ∷ rest)
    × IsIgnored first second third

-- what ends a name: its end, a slash, or bytes that begin with no character
abbrev pub EndsOnHfs : List ℕ → Type 0
EndsOnHfs [] = ⊤
EndsOnHfs (byte ∷ rest) = (byte ≡ slash) ⊎ (¬ BeginsWithCharacter (byte ∷ rest))

-- HFS+ takes the name for these letters, which are no capitals: `.g`, U+200C and `IT` are `.git`, and so are `.git/a`
-- and `.git` before a byte 0xff
pub data IsOnHfs : List ℕ → List ℕ → Type 0 where
  ends : (name : List ℕ) → EndsOnHfs name → IsOnHfs name []
  ignores : (name rest letters : List ℕ) → IsIgnoredBefore rest name → IsOnHfs rest letters → IsOnHfs name letters
  reads : (byte letter : ℕ) (rest letters : List ℕ) → byte < 0x80 → to_ascii_lowercase byte ≡ letter
      → IsOnHfs rest letters → IsOnHfs (byte ∷ rest) (letter ∷ letters)
