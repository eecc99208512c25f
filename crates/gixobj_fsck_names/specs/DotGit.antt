-- Names of repositories: `.git`, and what file systems take for it (git-fsck, `hasDotgit`).
use Rattle.std.specs.Prelude.{◌≡◌, ◌⊎◌, ◌++◌, ◌+◌, List, [], ◌∷◌, ℕ, codes, true}
use Rattle.gixobj_fsck_names.specs.Hfs.{IsOnHfs}
use Rattle.gixobj_fsck_names.specs.Letters.{backslash}
use Rattle.gixobj_fsck_names.specs.Ntfs.{IsOnNtfs}

-- HFS+ takes the name for `.git`
abbrev pub IsDotGitOnHfs : List ℕ → Type 0
IsDotGitOnHfs name = IsOnHfs name (codes ".git")

-- NTFS takes the name for `.git` or for its short name `git~1`: `.git.`, `GIT~1`, `.git::$INDEX_ALLOCATION`
unfoldable pub IsDotGitOnNtfs : List ℕ → Type 0
IsDotGitOnNtfs name = IsOnNtfs true name (codes ".git") ⊎ IsOnNtfs true name (codes "git~1")

-- what follows some backslash in the name has the property: Windows separates directories by backslashes
abbrev pub HasAfterBackslash : (List ℕ → Type 0) → List ℕ → Type 0
HasAfterBackslash P name = (before after : List ℕ) × (name ≡ before ++ (backslash ∷ after)) × P after

-- the number of backslashes of the name that have a rest with the property
abbrev pub IsCountAfterBackslashes : (List ℕ → Type 0) → List ℕ → ℕ → Type 0
IsCountAfterBackslashes P [] count = count ≡ 0
IsCountAfterBackslashes P (byte ∷ rest) count =
    ((byte ≡ backslash) × P rest × ((more : ℕ) × (count ≡ more + 1) × IsCountAfterBackslashes P rest more))
    ⊎ ((¬ ((byte ≡ backslash) × P rest)) × IsCountAfterBackslashes P rest count)

-- a file system takes the name for `.git`, or NTFS takes what follows a backslash in it for `.git`, as in `a\.git`
abbrev pub IsDotGit : List ℕ → Type 0
IsDotGit name = IsDotGitOnHfs name ⊎ IsDotGitOnNtfs name ⊎ HasAfterBackslash IsDotGitOnNtfs name
