-- Names as NTFS takes them (git-config, "core.protectNTFS"): it ignores the case of letters, drops spaces and dots at
-- the end, reads what follows a colon as a stream of the file, and has short names for long ones.
use Rattle.std.specs.Prelude.{◌≡◌, ◌⊎◌, ◌++◌, ℕ, Bool, true, List, [], ◌∷◌, ⊤}
use Rattle.std.specs.List.{AllByRecursion}
use Rattle.gixobj_fsck_names.specs.Letters.{Spells, backslash, colon, dot, slash, space}

-- the byte is one that NTFS drops at the end of a name
abbrev pub IsSpaceOrDot : ℕ → Type 0
IsSpaceOrDot byte = (byte ≡ space) ⊎ (byte ≡ dot)

-- what ends a name: its end, a colon, and where `slashes` is true a backslash or a slash
abbrev pub EndsOnNtfs : Bool → List ℕ → Type 0
EndsOnNtfs slashes [] = ⊤
EndsOnNtfs slashes (byte ∷ rest) = (byte ≡ colon) ⊎ ((slashes ≡ true) × ((byte ≡ backslash) ⊎ (byte ≡ slash)))

-- NTFS drops the bytes at the end of a name: spaces and dots, and what ends the name, as `. .`, ` :$DATA`
abbrev pub IsDropped : Bool → List ℕ → Type 0
IsDropped slashes bytes = (dropped rest : List ℕ) × (bytes ≡ dropped ++ rest) × AllByRecursion IsSpaceOrDot dropped
    × EndsOnNtfs slashes rest

-- NTFS takes the name for these letters, which are no capitals: `.GIT. ` is `.git`
abbrev pub IsOnNtfs : Bool → List ℕ → List ℕ → Type 0
IsOnNtfs slashes name letters = (spelled rest : List ℕ) × (name ≡ spelled ++ rest) × Spells spelled letters
    × IsDropped slashes rest
