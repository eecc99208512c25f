-- Counts of backslashes, from the start of a name on.
use Rattle.std.proofs.Common.{◌≡◌, ◌+◌, ℕ, List, [], ◌∷◌, arith, inl, inr, length, refl}
use Rattle.gixobj_fsck_names.specs.DotGit.{IsCountAfterBackslashes}
use Rattle.gixobj_fsck_names.specs.Letters.{backslash}

-- a count of the rest and this one are a count of the name
abbrev pub AddsTo : (List ℕ → Type 0) → List ℕ → List ℕ → ℕ → Type 0
AddsTo P rest name count = (more all : ℕ) → all ≡ count + more → IsCountAfterBackslashes P rest more → IsCountAfterBackslashes P name all

-- a backslash with such a rest is counted
pub adds_to_more : (P : List ℕ → Type 0) (byte : ℕ) (after name : List ℕ) (count : ℕ) → byte ≡ backslash → P after
    → AddsTo P (byte ∷ after) name count → AddsTo P after name (count + 1)
adds_to_more P byte after name count is has adds more all same counted =
    adds (more + 1) all (omega arith) (inl (is, has, (more, refl, counted)))

-- another byte is not
pub adds_to_same : (P : List ℕ → Type 0) (byte : ℕ) (after name : List ℕ) (count : ℕ) → (¬ ((byte ≡ backslash) × P after))
    → AddsTo P (byte ∷ after) name count → AddsTo P after name count
adds_to_same P byte after name count other adds more all same counted = adds more all same (inr (other, counted))

-- nothing remains
pub count_of_adds : (P : List ℕ → Type 0) (rest name : List ℕ) (count : ℕ) → rest ≡ [] → AddsTo P rest name count
    → IsCountAfterBackslashes P name count
count_of_adds P [] name count bare adds = adds 0 count (omega arith) refl
count_of_adds P (byte ∷ rest) name count bare adds = cc bare

-- no byte is in a name of length 0
pub nil_of_len : (bytes : List ℕ) → length bytes ≡ 0 → bytes ≡ []
nil_of_len [] len = refl
nil_of_len (byte ∷ bytes) len = absurd (omega (arith, len))
