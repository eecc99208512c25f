-- Paths, and their directories; the proofs of the editor's calls that take a path use it.
use Rattle.std.proofs.Common.{◌≡◌, ◌∙◌, ◌⊎◌, inl, inr, ℕ, List, [], ◌∷◌, ◌++◌, append-nil, arith, length, length-append, refl, sym, ap}
use Rattle.std.proofs.lemmas.List.{map-append}
use Rattle.bstr.specs.Owned.{bstring_bytes}
use Rattle.bstr.specs.declared.bstring.BString.{BString}
use Rattle.gixobj_editor_open.specs.Paths.{names_of}
use Rattle.gixobj_editor_files.specs.Files.{Path}
use Rattle.gixobj_editor_lookups.specs.EditNames.{directory_of}

pub directory_of_snoc : (prefix : Path) (last : List ℕ) → directory_of (prefix ++ last ∷ []) ≡ prefix
directory_of_snoc [] last = refl
directory_of_snoc (name ∷ []) last = refl
directory_of_snoc (name ∷ next ∷ rest) last = ap (λ p. name ∷ p) (directory_of_snoc (next ∷ rest) last)

-- the directory of a path is a prefix of the path
pub directory_is_prefix : (path : Path) → (more : Path) × (path ≡ directory_of path ++ more)
directory_is_prefix [] = ([], refl)
directory_is_prefix (name ∷ []) = (name ∷ [], refl)
directory_is_prefix (name ∷ next ∷ rest) = let deeper = directory_is_prefix (next ∷ rest) in (deeper.0, ap (λ p. name ∷ p) deeper.1)

pub names_of_snoc : (path rest : List BString) (last : BString) → path ≡ rest ++ last ∷ [] → names_of path ≡ names_of rest ++ bstring_bytes last ∷ []
names_of_snoc path rest last is = ap names_of is ∙ map-append bstring_bytes rest (last ∷ [])

cons_injective_head : (x y : List ℕ) (xs ys : Path) → x ∷ xs ≡ y ∷ ys → x ≡ y
cons_injective_head x y xs ys is = cc is

cons_injective_tail : (x y : List ℕ) (xs ys : Path) → x ∷ xs ≡ y ∷ ys → xs ≡ ys
cons_injective_tail x y xs ys is = cc is

-- of two splits of one path, the second is within the first part, at the same position, or after it
pub snoc_prefix_cases : (prefix : Path) (last : List ℕ) (after parent : Path) (next : List ℕ) (rest : Path) → prefix ++ last ∷ after ≡ parent ++ next ∷ rest
    → ((more : Path) × (prefix ≡ parent ++ next ∷ more)) ⊎ ((prefix ≡ parent) × (last ≡ next) × (after ≡ rest))
    ⊎ ((more : Path) × (parent ≡ prefix ++ last ∷ more))
snoc_prefix_cases [] last after [] next rest is = inr (inl (refl, cc is, cc is))
snoc_prefix_cases [] last after (p ∷ parent) next rest is = inr (inr (
  parent,
  ap (λ x. x ∷ parent)
      (cons_injective_head p last (parent ++ next ∷ rest) after (sym is)),
))
snoc_prefix_cases (f ∷ prefix) last after [] next rest is = inl (prefix, ap (λ x. x ∷ prefix) (cons_injective_head f next (prefix ++ last ∷ after) rest is))
snoc_prefix_cases (f ∷ prefix) last after (p ∷ parent) next rest is =
    let same = cons_injective_head f p (prefix ++ last ∷ after) (parent ++ next ∷ rest) is in
    elim (snoc_prefix_cases prefix last after parent next rest (cons_injective_tail f p (prefix ++ last ∷ after) (parent ++ next ∷ rest) is)) [
      | inl within ↦ inl (within.0, ap (λ x. x ∷ prefix) same ∙ ap (λ q. p ∷ q) within.1)
      | inr (inl at) ↦ inr (inl (ap (λ x. x ∷ prefix) same ∙ ap (λ q. p ∷ q) at.0, at.1, at.2))
      | inr (inr after_it) ↦ inr (inr (after_it.0, ap (λ x. x ∷ parent) (sym same) ∙ ap (λ q. f ∷ q) after_it.1))
    ]

-- what is above a path is a prefix of the path's directory
pub prefix_extends : (prefix : Path) (last : List ℕ) (parent : Path) (next : List ℕ) (rest : Path) → prefix ++ last ∷ [] ≡ parent ++ next ∷ rest → (more : Path)
    × (prefix ≡ parent ++ more)
prefix_extends prefix last parent next rest is =
    elim (snoc_prefix_cases prefix last [] parent next rest is) [
      | inl within ↦ (next ∷ within.0, within.1)
      | inr (inl at) ↦ ([], at.0 ∙ sym (append-nil parent))
      | inr (inr after_it) ↦ absurd (
          let total : length (prefix ++ last ∷ []) ≡ length (parent ++ next ∷ rest) = ap length is in
          let longer : length parent ≡ length (prefix ++ last ∷ after_it.0) = ap length after_it.1 in
          omega (arith, total, longer, length-append prefix (last ∷ []), length-append parent (next ∷ rest), length-append prefix (last ∷ after_it.0))
          )
    ]
