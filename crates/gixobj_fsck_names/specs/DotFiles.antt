-- Names of the files that git reads from trees, and what file systems take for them (git-fsck, `gitmodulesSymlink`,
-- `gitattributesSymlink`, `gitignoreSymlink` and `mailmapSymlink`; gitmodules, gitattributes, gitignore, gitmailmap).
use Rattle.std.specs.Prelude.{◌≡◌, ◌⊎◌, ◌++◌, ℕ, List, [], ◌∷◌, ◌≤◌, codes, drop, false, length, take}
use Rattle.std.specs.List.{AllByRecursion}
use Rattle.gixobj_fsck_names.specs.DotGit.{HasAfterBackslash}
use Rattle.gixobj_fsck_names.specs.Hfs.{IsOnHfs}
use Rattle.gixobj_fsck_names.specs.Letters.{Spells, tilde}
use Rattle.gixobj_fsck_names.specs.Ntfs.{IsDropped, IsOnNtfs}
use Rattle.gixobj_fsck_names.specs.Utf8.{IsWithin}

-- the digits are a number without a first zero
abbrev pub IsNumber : List ℕ → Type 0
IsNumber [] = ⊥
IsNumber (first ∷ digits) = IsWithin 49 57 first × AllByRecursion (IsWithin 48 57) digits

-- a short name of NTFS for one of the first files: the beginning, which has a tilde, and one of 1 to 4, as `gitmod~1`
abbrev pub IsShortName : List ℕ → List ℕ → Type 0
IsShortName beginning name = (spelled rest : List ℕ) × (digit : ℕ) × (name ≡ spelled ++ (digit ∷ rest))
    × Spells spelled beginning × IsWithin 49 52 digit × IsDropped false rest

-- first letters of the hash, a tilde and a number, as `gi7eb~10` of `gi7eba`
abbrev pub IsHashed : List ℕ → List ℕ → Type 0
IsHashed hash bytes = (letters digits first more : List ℕ) × (bytes ≡ letters ++ (tilde ∷ digits))
    × Spells letters first × (hash ≡ first ++ more) × IsNumber digits

-- a short name of NTFS for a later file: eight bytes, from a hash of the name, as `gi7eba~1`
abbrev pub IsHashedName : List ℕ → List ℕ → Type 0
IsHashedName hash name = (8 ≤ length name) × IsHashed hash (take 8 name) × IsDropped false (drop 8 name)

-- NTFS takes the name for the file with this name, beginning and hash
unfoldable pub IsFileOnNtfs : List ℕ → List ℕ → List ℕ → List ℕ → Type 0
IsFileOnNtfs file beginning hash name = IsOnNtfs false name file ⊎ IsShortName beginning name ⊎ IsHashedName hash name

-- NTFS takes the name for `.gitmodules`
abbrev pub IsGitModulesOnNtfs : List ℕ → Type 0
IsGitModulesOnNtfs = IsFileOnNtfs (codes ".gitmodules") (codes "gitmod~") (codes "gi7eba")

-- a file system takes the name for `.gitmodules`, backslashes aside
abbrev pub IsGitModulesFile : List ℕ → Type 0
IsGitModulesFile name = IsOnHfs name (codes ".gitmodules") ⊎ IsGitModulesOnNtfs name

-- a file system takes the name for `.gitmodules`, or NTFS takes what follows a backslash in it for that: `.GITMODULES`,
-- `gitmod~1`, `a\.gitmodules`
abbrev pub IsGitModules : List ℕ → Type 0
IsGitModules name = IsOnHfs name (codes ".gitmodules") ⊎ IsGitModulesOnNtfs name
    ⊎ HasAfterBackslash IsGitModulesOnNtfs name

-- a file system takes the name for `.gitattributes`: `gitatt~1`, `gi7d29~1`
abbrev pub IsGitAttributes : List ℕ → Type 0
IsGitAttributes name = IsOnHfs name (codes ".gitattributes")
    ⊎ IsFileOnNtfs (codes ".gitattributes") (codes "gitatt~") (codes "gi7d29") name

-- a file system takes the name for `.gitignore`: `gitign~1`, `gi250a~1`
abbrev pub IsGitIgnore : List ℕ → Type 0
IsGitIgnore name = IsOnHfs name (codes ".gitignore")
    ⊎ IsFileOnNtfs (codes ".gitignore") (codes "gitign~") (codes "gi250a") name

-- a file system takes the name for `.mailmap`: `mailma~1`, `maba30~1`
abbrev pub IsMailmap : List ℕ → Type 0
IsMailmap name = IsOnHfs name (codes ".mailmap")
    ⊎ IsFileOnNtfs (codes ".mailmap") (codes "mailma~") (codes "maba30") name
