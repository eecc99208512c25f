-- The arguments after the program's name.
use Rattle.std.specs.Prelude.{◌≡◌, ℕ, List, [], ◌∷◌, codes}
use Rattle.gixobj_hash.specs.declared.hash.kind.Kind.{Kind}
use Rattle.gixobj_hash.specs.declared.hash.kind.Kind.TheVariants.{Sha1, Sha256}

-- the arguments after a command for this kind of hash: none for SHA-1
abbrev pub hash_arguments : Kind → List (List ℕ)
hash_arguments Sha1 = []
hash_arguments Sha256 = codes "sha256" ∷ []

-- the arguments are this command by this kind of hash
abbrev pub IsCommandOfHash : List (List ℕ) → List ℕ → Kind → Type 0
IsCommandOfHash arguments command hash = arguments ≡ command ∷ hash_arguments hash

-- the arguments are this command by some kind of hash
abbrev pub IsCommand : List (List ℕ) → List ℕ → Type 0
IsCommand arguments command = (hash : Kind) × IsCommandOfHash arguments command hash

-- the arguments are not this command
abbrev pub IsOtherCommand : List (List ℕ) → List ℕ → Type 0
IsOtherCommand arguments command = (hash : Kind) → ¬ IsCommandOfHash arguments command hash
