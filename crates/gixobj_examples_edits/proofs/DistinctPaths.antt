-- No path is repeated among the directories below one, entry by entry; the proof of `Uploaded` uses it.
use Rattle.std.proofs.Common.{◌≡◌, ◌≢◌, ◌∙◌, ◌⊎◌, ℕ, List, [], ◌∷◌, ◌++◌, ⊎_elim, ap, inl, inr, map, refl, subst, sym}
use Rattle.std.specs.List.{AllByRecursion}
use Rattle.gix_object.specs.Entries.{EntryView}
use Rattle.gix_object.specs.Files.{ContainsEntry, Path}
use Rattle.gixobj_examples_edits.specs.Uploads.{AreDistinctPaths}

-- each path begins with a name of these
abbrev pub Starts : (List ℕ → Type 0) → List Path → Type 0
Starts P paths = AllByRecursion (λ (path : Path). (name : List ℕ) × (rest : Path) × P name × (path ≡ name ∷ rest)) paths

-- the name of one of the entries
abbrev pub IsOf : List EntryView → List ℕ → Type 0
IsOf entries name = (e : EntryView) × ContainsEntry entries e × (e.name ≡ name)

abbrev pub under : List ℕ → Path → Path
under name path = name ∷ path

module _ {X : Type 0} where
  all_joined : (P : X → Type 0) (xs ys : List X) → AllByRecursion P xs → AllByRecursion P ys → AllByRecursion P (xs ++ ys)
  all_joined P [] ys of_xs of_ys = of_ys
  all_joined P (x ∷ xs) ys of_xs of_ys = (of_xs.0, all_joined P xs ys of_xs.1 of_ys)

  all_weaker : (P Q : X → Type 0) → ((x : X) → P x → Q x) → (xs : List X) → AllByRecursion P xs → AllByRecursion Q xs
  all_weaker P Q weaker [] of_xs = tt
  all_weaker P Q weaker (x ∷ xs) of_xs = (weaker x of_xs.0, all_weaker P Q weaker xs of_xs.1)

pub starts_cons : (P Q : List ℕ → Type 0) → ((name : List ℕ) → P name → Q name) → (paths : List Path) → Starts P paths → Starts Q paths
starts_cons P Q weaker paths starts =
    all_weaker (λ (path : Path). (name : List ℕ) × (rest : Path) × P name × (path ≡ name ∷ rest)) (λ (path : Path). (name : List ℕ) × (rest : Path) × Q name
    × (path ≡ name ∷ rest)) (λ path it. (it.0, it.1, weaker it.0 it.2, it.3)) paths starts

pub starts_append : (P : List ℕ → Type 0) (xs ys : List Path) → Starts P xs → Starts P ys → Starts P (xs ++ ys)
starts_append P xs ys = all_joined (λ (path : Path). (name : List ℕ) × (rest : Path) × P name × (path ≡ name ∷ rest)) xs ys

-- paths with a name before them begin with that name
pub starts_map_under : (P : List ℕ → Type 0) (name : List ℕ) (paths : List Path) → P name → Starts P (map (under name) paths)
starts_map_under P name [] is = tt
starts_map_under P name (path ∷ paths) is = ((name, path, is, refl), starts_map_under P name paths is)

all_paths_differ_map_under : (name : List ℕ) (path : Path) (paths : List Path) → AllByRecursion (λ (q : Path). path ≢ q) paths
    → AllByRecursion (λ (q : Path). (name ∷ path) ≢ q) (map (under name) paths)
all_paths_differ_map_under name path [] others = tt
all_paths_differ_map_under name path (q ∷ paths) others = ((λ same. others.0 (cc same)), all_paths_differ_map_under name path paths others.1)

once_map_under : (name : List ℕ) (paths : List Path) → AreDistinctPaths paths → AreDistinctPaths (map (under name) paths)
once_map_under name [] once = tt
once_map_under name (path ∷ paths) once = (all_paths_differ_map_under name path paths once.0, once_map_under name paths once.1)

once_append : (xs ys : List Path) → AreDistinctPaths xs → AreDistinctPaths ys
    → AllByRecursion (λ (x : Path). AllByRecursion (λ (y : Path). x ≢ y) ys) xs → AreDistinctPaths (xs ++ ys)
once_append [] ys once_x once_y apart = once_y
once_append (x ∷ xs) ys once_x once_y apart = (all_joined (λ (y : Path). x ≢ y) xs ys once_x.0 apart.0, once_append xs ys once_x.1 once_y apart.1)

-- a path that begins with a name differs from each that begins with another
all_paths_differ_of_starts : (name : List ℕ) (path : Path) (paths : List Path) → Starts (λ other. other ≢ name) paths
    → AllByRecursion (λ (q : Path). (name ∷ path) ≢ q) paths
all_paths_differ_of_starts name path [] starts = tt
all_paths_differ_of_starts name path (q ∷ paths) ((other, rest, differs, is), starts) =
    ((λ same. let both : name ∷ path ≡ other ∷ rest = same ∙ is in differs (cc both)), all_paths_differ_of_starts name path paths starts)

under_paths_differ_of_starts : (name : List ℕ) (paths others : List Path) → Starts (λ other. other ≢ name) others
    → AllByRecursion (λ (x : Path). AllByRecursion (λ (y : Path). x ≢ y) others) (map (under name) paths)
under_paths_differ_of_starts name [] others starts = tt
under_paths_differ_of_starts name (path ∷ paths) others starts = (
  all_paths_differ_of_starts name path others starts,
  under_paths_differ_of_starts name paths
      others starts,
)

-- the paths below a directory of this name, that directory at most once, and the paths below others
pub once_under_append : (P : List ℕ → Type 0) (name : List ℕ) (low late : List Path) → AreDistinctPaths low → AreDistinctPaths late
    → Starts (λ other. other ≢ name) late
    → AreDistinctPaths (map (under name) low ++ late)
once_under_append P name low late once_low once_late starts = once_append (map (under name) low) late (once_map_under name low once_low) once_late
    (under_paths_differ_of_starts name low late starts)

under_paths_differ_of_name_and_starts : (P : List ℕ → Type 0) (name : List ℕ) (paths others : List Path) → Starts P paths
    → Starts (λ other. other ≢ name) others
    → AllByRecursion (λ (x : Path). AllByRecursion (λ (y : Path). x ≢ y) ((name ∷ []) ∷ others)) (map (under name) paths)
under_paths_differ_of_name_and_starts P name [] others starts apart = tt
under_paths_differ_of_name_and_starts P name (path ∷ paths) others ((first, rest, holds, is), starts) apart = (
  ((λ same. let bare : path ≡ [] = cc same in let none : first ∷ rest ≡ [] = sym is ∙ bare in cc none), all_paths_differ_of_starts name path others apart),
  under_paths_differ_of_name_and_starts P name paths others starts apart,
)

pub once_under_append_name : (P : List ℕ → Type 0) (name : List ℕ) (low late : List Path) → AreDistinctPaths low → Starts P low
    → AreDistinctPaths late
    → Starts (λ other. other ≢ name) late
    → AreDistinctPaths (map (under name) low ++ (name ∷ []) ∷ late)
once_under_append_name P name low late once_low deeper once_late starts =
    once_append (map (under name) low) ((name ∷ []) ∷ late) (once_map_under name low once_low) (all_paths_differ_of_starts name [] late starts, once_late)
    (under_paths_differ_of_name_and_starts P name low late deeper starts)

-- the names of later entries differ
pub entry_name_ne : (e : EntryView) (rest : List EntryView) → AllByRecursion (λ (x : EntryView). e.name ≢ x.name) rest → (name : List ℕ) → IsOf rest name
    → name ≢ e.name
entry_name_ne e [] others name (x, has, named) = absurd has
entry_name_ne e (y ∷ rest) others name (x, has, named) = λ same. ⊎_elim
    (λ is. others.0 (sym same ∙ sym named ∙ ap (λ (it : EntryView). it.name) (sym is)))
    (λ later. entry_name_ne e rest others.1 name (x, later, named) same) has

-- this path, or none
abbrev pub IsPerhaps : List ℕ → List Path → Type 0
IsPerhaps name mid = (mid ≡ []) ⊎ (mid ≡ (name ∷ []) ∷ [])

pub once_under_append_append : (P : List ℕ → Type 0) (name : List ℕ) (low mid late : List Path) → IsPerhaps name mid → AreDistinctPaths low → Starts P low
    → AreDistinctPaths late
    → Starts (λ other. other ≢ name) late → AreDistinctPaths (map (under name) low ++ (mid ++ late))
once_under_append_append P name low mid late (inl none) once_low deeper once_late starts =
    subst (λ (m : List Path). AreDistinctPaths (map (under name) low ++ (m ++ late))) (sym none) (once_under_append P name low late once_low once_late starts)
once_under_append_append P name low mid late (inr one) once_low deeper once_late starts =
    subst (λ (m : List Path). AreDistinctPaths (map (under name) low ++ (m ++ late))) (sym one)
    (once_under_append_name P name low late once_low deeper once_late starts)

pub starts_under_append_append : (P : List ℕ → Type 0) (name : List ℕ) (low mid late : List Path) → IsPerhaps name mid → P name → Starts P late
    → Starts P (map (under name) low ++ (mid ++ late))
starts_under_append_append P name low mid late (inl none) is starts =
    subst (λ (m : List Path). Starts P (map (under name) low ++ (m ++ late))) (sym none)
    (starts_append P (map (under name) low) late (starts_map_under P name low is) starts)
starts_under_append_append P name low mid late (inr one) is starts =
    subst (λ (m : List Path). Starts P (map (under name) low ++ (m ++ late))) (sym one)
    (starts_append P (map (under name) low) ((name ∷ []) ∷ late) (starts_map_under P name low is) ((name, [], is, refl), starts))
