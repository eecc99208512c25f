-- The definitions of names byte by byte, as the functions of this crate read them.
use Rattle.std.specs.Prelude.{◌≡◌, ◌⊎◌, ◌<◌, ℕ, Bool, List, [], ◌∷◌, false, ⊤}
use Rattle.std.specs.Char.{to_ascii_lowercase}
use Rattle.gixobj_fsck_names.specs.DotFiles.{IsNumber}
use Rattle.gixobj_fsck_names.specs.Hfs.{EndsOnHfs, IsOnHfs}
use Rattle.gixobj_fsck_names.specs.Letters.{backslash, tilde}
use Rattle.gixobj_fsck_names.specs.Ntfs.{EndsOnNtfs, IsDropped, IsSpaceOrDot}
use Rattle.gixobj_fsck_names.specs.Utf8.{IsWithin}

-- `IsDropped`
abbrev pub DropsEach : Bool → List ℕ → Type 0
DropsEach slashes [] = ⊤
DropsEach slashes (byte ∷ rest) = EndsOnNtfs slashes (byte ∷ rest) ⊎ (IsSpaceOrDot byte × DropsEach slashes rest)

-- `IsOnNtfs`
abbrev pub SpellsEach : Bool → List ℕ → List ℕ → Type 0
SpellsEach slashes name [] = IsDropped slashes name
SpellsEach slashes [] (letter ∷ letters) = ⊥
SpellsEach slashes (byte ∷ name) (letter ∷ letters) =
    (to_ascii_lowercase byte ≡ letter) × SpellsEach slashes name letters

-- one of the digits 1 to 4, and bytes that are dropped
abbrev pub EndsWithDigit : List ℕ → Type 0
EndsWithDigit [] = ⊥
EndsWithDigit (digit ∷ rest) = IsWithin 49 52 digit × IsDropped false rest

-- `IsShortName`
abbrev pub ShortensEach : List ℕ → List ℕ → Type 0
ShortensEach name [] = EndsWithDigit name
ShortensEach [] (letter ∷ letters) = ⊥
ShortensEach (byte ∷ name) (letter ∷ letters) = (to_ascii_lowercase byte ≡ letter) × ShortensEach name letters

-- `IsHashed`
abbrev pub HashesEach : List ℕ → List ℕ → Type 0
HashesEach [] hash = ⊥
HashesEach (byte ∷ rest) [] = (byte ≡ tilde) × IsNumber rest
HashesEach (byte ∷ rest) (letter ∷ hash) = ((byte ≡ tilde) × IsNumber rest)
    ⊎ ((to_ascii_lowercase byte ≡ letter) × HashesEach rest hash)

-- `HasAfterBackslash`
abbrev pub FindsBackslash : (List ℕ → Type 0) → List ℕ → Type 0
FindsBackslash P [] = ⊥
FindsBackslash P (byte ∷ rest) = ((byte ≡ backslash) × P rest) ⊎ FindsBackslash P rest

-- `IsOnHfs` of a name that begins with no ignored code point
abbrev pub ReadsNext : List ℕ → List ℕ → Type 0
ReadsNext name [] = EndsOnHfs name
ReadsNext [] (letter ∷ letters) = ⊥
ReadsNext (byte ∷ rest) (letter ∷ letters) = (byte < 0x80) × (to_ascii_lowercase byte ≡ letter) × IsOnHfs rest letters
