-- Openings from the open directory at a prefix are openings along the path from the root: for the functions of `below`.
use Rattle.std.proofs.Common.{◌≡◌, ◌≢◌, ◌∙◌, inl, inr, ℕ, Bool, true, false, List, [], ◌∷◌, ◌++◌, Option, Some, None, append_assoc, refl, sym, ap, subst}
use Rattle.std.specs.Prelude.{reverse}
use Rattle.std.proofs.lemmas.List.Elements.{All-append, All-head, All-tail}
use Rattle.gixobj_tree_entries.specs.Entries.{EntryView}
use Rattle.gixobj_tree.specs.WellFormed.{IsEntryName}
use Rattle.gixobj_hash.specs.declared.hash.object_id.ObjectId.{ObjectId}
use Rattle.gixobj_store.specs.Stores.{Objects}
use Rattle.gixobj_editor_files.specs.Edits.{IsNoTree, Opens, arrived, counted}
use Rattle.gixobj_editor_files.specs.Files.{Path, Trees}
use Rattle.gixobj_editor_files.specs.OpeningStops.{IsUnopenedAbove, StopsOpening}
use Rattle.gixobj_editor_files.specs.Opening.{Dirs, in_path}
use Rattle.gixobj_editor_files.proofs.StoppedOpenings.{halted_at}
use Rattle.gixobj_editor_open.specs.Descents.{IsDescended, has_inner, rebuilt}
use Rattle.gixobj_editor_open.specs.Nested.{Opened, dirs_of, entries_side}
use Rattle.gixobj_editor_open.specs.Paths.{AreNames}
use Rattle.gixobj_editor_open.proofs.Descents.{at_ascent, at_descent}
use Rattle.gixobj_editor_open.proofs.Exchanges.{at_without_inner}
use Rattle.gixobj_editor_lookups.specs.EditNames.{IsFirstNameError, SplitsForRemoval, directory_of, from_root}
use Rattle.gixobj_editor_lookups.specs.FailedOpenings.{IsLookupError, OpensInPart, edit_error}
use Rattle.gixobj_editor_lookups.specs.Openings.{IsOpenErrorAt}
use Rattle.gixobj_editor_lookups.specs.RemovalErrors.{ValidatesUpTo}
use Rattle.gixobj_editor_lookups.specs.UpsertErrors.{IsNameError, IsUpsertError}
use Rattle.gixobj_editor_lookups.specs.declared.opening.Error as directory
use Rattle.gixobj_editor_lookups.specs.declared.opening.Error.TheVariants as opening
use Rattle.gixobj_editor_lookups.specs.declared.error.Error.{Error}
use Rattle.gixobj_editor_lookups.specs.declared.error.Error.TheVariants as error
use Rattle.gixobj_editor_lookups.proofs.InPart.{opened_in_part}
use Rattle.gixobj_editor_lookups.proofs.OpeningDescents.{goes_along}
use Rattle.gixobj_editor_lookups.proofs.OpeningSteps.{GoesDown}
use Rattle.gixobj_editor_lookups.proofs.Paths.{directory_of_snoc}
use Rattle.gixobj_editor_lookups.proofs.Removing.{directory_of_append, path_nil_or_snoc}
use Rattle.gixobj_editor_lookups.proofs.ValidNames.{no_other_error}

-- an open directory on a path is entered
pub has_inner_of_open : (name : List ℕ) (rest : Path) (ds : Opened) → dirs_of ds (name ∷ rest) ≢ None → has_inner name ds ≡ true
has_inner_of_open name rest ds there =
    elim (has_inner name ds) as (λ b. has_inner name ds ≡ b → b ≡ true) [
      | true ↦ λ is. refl
      | false ↦ λ is. absurd (there (at_without_inner entries_side name ds is rest))
    ] refl

-- what holds in the directory that was reached holds from the top
pub goes_below : (R : Path → Dirs → Dirs → List ObjectId → Type 0) → GoesDown R → (prefix path : Path) (old here above new next : Opened)
    → IsDescended prefix old here above → new ≡ rebuilt (reverse prefix) above next → (entries : List EntryView) → dirs_of here [] ≡ Some entries
    → (looked_up : List ObjectId) → R path (dirs_of here) (dirs_of next) looked_up → R (prefix ++ path) (dirs_of old) (dirs_of new) looked_up
goes_below R goes_down prefix path old here above new next descended is entries root looked_up r =
    let inside : in_path prefix (dirs_of old) ≡ dirs_of here = at_descent descended entries_side in
    subst (λ (d : Dirs). R (prefix ++ path) (dirs_of old) d looked_up) (sym (λ i at. at_ascent descended new next is entries_side at i))
    (goes_along R goes_down prefix (dirs_of old) descended.trees entries (ap (λ (d : Dirs). d []) inside ∙ root) path (dirs_of next) looked_up
    (subst (λ (d : Dirs). R path d (dirs_of next) looked_up) (sym inside) r))

-- the directory at the top is open
pub root_of_descended : (names : Path) (old here above : Opened) → IsDescended names old here above → (entries : List EntryView)
    → dirs_of here [] ≡ Some entries → (own : List EntryView) × (dirs_of old [] ≡ Some own)
root_of_descended [] old here above descended entries root =
    (entries, subst (λ (d : Opened). dirs_of d [] ≡ Some entries) descended.rebuilt_is root)
root_of_descended (name ∷ names) old here above descended entries root = (descended.trees.0.0, descended.trees.0.1)

-- a path from the root that has names
pub from_root_snoc : (prefix path head : Path) (last : List ℕ) → path ≡ head ++ last ∷ [] → from_root prefix path ≡ (prefix ++ head) ++ last ∷ []
from_root_snoc prefix [] [] last is = absurd (cc is)
from_root_snoc prefix [] (name ∷ head) last is = absurd (cc is)
from_root_snoc prefix (name ∷ path) head last is = ap (λ (p : Path). prefix ++ p) is ∙ sym (append_assoc prefix head (last ∷ []))

-- the path has a last name
pub ends_of_names : (path : Path) → path ≢ [] → (head : Path) × (last : List ℕ) × (path ≡ head ++ last ∷ []) × (directory_of path ≡ head)
ends_of_names path some = elim (path_nil_or_snoc path) [
  | inl none ↦ absurd (some none)
  | inr ends ↦ (ends.0, ends.1, ends.2, ap directory_of ends.2 ∙ directory_of_snoc ends.0 ends.1)
]

pub from_root_filled : (prefix path : Path) → path ≢ [] → from_root prefix path ≢ []
from_root_filled prefix [] some none = some refl
from_root_filled [] (name ∷ path) some none = cc none
from_root_filled (first ∷ prefix) (name ∷ path) some none = cc none

-- its names are valid if those of both parts are, and its first invalid name is that of the path
pub are_names_from_root : (prefix path : Path) → AreNames prefix → AreNames path → AreNames (from_root prefix path)
are_names_from_root prefix [] before names = names
are_names_from_root prefix (name ∷ path) before names = All-append IsEntryName prefix (name ∷ path) before names

first_name_error_after : (prefix path : Path) (failure : Error) → AreNames prefix → IsFirstNameError path failure → IsFirstNameError (prefix ++ path) failure
first_name_error_after [] path failure before is = is
first_name_error_after (name ∷ prefix) path failure before is =
    inr (All-head IsEntryName name prefix before, first_name_error_after prefix path failure (All-tail IsEntryName name prefix before) is)

pub first_name_error_from_root : (prefix path : Path) (failure : Error) → AreNames prefix → IsFirstNameError path failure
    → IsFirstNameError (from_root prefix path) failure
first_name_error_from_root prefix [] failure before is = is
first_name_error_from_root prefix (name ∷ path) failure before is = first_name_error_after prefix (name ∷ path) failure before is

-- a split of the path is one of the path from the root
pub splits_from_root : (prefix path names rejected : Path) → AreNames prefix → path ≢ [] → SplitsForRemoval path names rejected
    → SplitsForRemoval (from_root prefix path) (prefix ++ names) rejected
splits_from_root prefix [] names rejected before some splits = absurd (some refl)
splits_from_root prefix (name ∷ path) names [] before some splits =
    (All-append IsEntryName prefix (name ∷ path) before splits.0, ap (λ (p : Path). prefix ++ p) splits.1 ∙ sym (directory_of_append prefix name path))
splits_from_root prefix (name ∷ path) names (bad ∷ rest) before some splits =
    (All-append IsEntryName prefix names before splits.0, splits.1, ap (λ (p : Path). prefix ++ p) splits.2 ∙ sym (append_assoc prefix names (bad ∷ rest)))

-- nothing is opened for a path without names
no_name : (parent : Path) (name : List ℕ) (rest : Path) → [] ≡ parent ++ name ∷ rest → ⊥
no_name [] name rest is = cc is
no_name (first ∷ parent) name rest is = cc is

pub opened_for_nothing : {StopsBefore : EntryView → Type 0} (trees : Trees) (path : Path) → path ≡ [] → (dirs : Dirs) (n : ℕ) → (looked_up : List ObjectId)
    × Opens StopsBefore trees (directory_of path) dirs dirs looked_up × (n ≡ counted n looked_up)
    × ((name : List ℕ) → ValidatesUpTo StopsBefore trees dirs path name → IsEntryName name)
opened_for_nothing {StopsBefore} trees path none dirs n = (
  [],
  subst (λ (p : Path). Opens StopsBefore trees (directory_of p) dirs dirs []) (sym none) (arrived dirs),
  refl,
  λ name it. absurd (no_name it.0 name it.1 (sym none ∙ it.2)),
)

-- the directories above the path are opened, and then memory runs out
pub opened_above_in_part : {StopsBefore : EntryView → Type 0} (objects : Objects) (may_fail : ObjectId → Bool) (trees : Trees) (path : Path) → path ≢ []
    → (old new : Dirs) (looked_up : List ObjectId) → Opens StopsBefore trees (directory_of path) old new looked_up → (n m : ℕ) → m ≡ counted n looked_up
    → (failure : Error) → (¬ IsLookupError failure) → OpensInPart StopsBefore objects may_fail trees path old new n m failure
opened_above_in_part {StopsBefore} objects may_fail trees path some old new looked_up opens n m count failure other =
    let ends = ends_of_names path some in
    opened_in_part objects may_fail trees path ends.0 ends.1 [] ends.2 old new looked_up
    (subst (λ (p : Path). Opens StopsBefore trees p old new looked_up) ends.3 opens) n m count failure other

-- the errors of an upsert, for the first invalid name and for a directory that isn't opened
pub upsert_error_of_name : (objects : Objects) (may_fail : ObjectId → Bool) (trees : Trees) (dirs : Dirs) (path : Path) (failure : Error)
    → IsFirstNameError path failure → IsUpsertError objects may_fail trees dirs path failure
upsert_error_of_name objects may_fail trees dirs path error.EmptyPathComponent h = h
upsert_error_of_name objects may_fail trees dirs path error.SlashInPathComponent h = h
upsert_error_of_name objects may_fail trees dirs path (error.FindExistingObject cause) h =
    absurd (no_other_error path (error.FindExistingObject cause) (λ name k. k) h)
upsert_error_of_name objects may_fail trees dirs path (error.CannotRemoveNonLeaf at) h =
    absurd (no_other_error path (error.CannotRemoveNonLeaf at) (λ name k. k) h)
upsert_error_of_name objects may_fail trees dirs path error.MalformedTree h = absurd (no_other_error path error.MalformedTree (λ name k. k) h)
upsert_error_of_name objects may_fail trees dirs path error.OutOfMemory h = absurd (no_other_error path error.OutOfMemory (λ name k. k) h)

module _ (objects : Objects) (may_fail : ObjectId → Bool) (trees : Trees) (path head : Path) (last : List ℕ) (is : path ≡ head ++ last ∷ [])
    (names : AreNames path) (some : path ≢ []) (old new : Dirs) (queries : List ObjectId) where
  above : (v : Option ObjectId) → StopsOpening IsNoTree trees head old new queries v → (it : ObjectId) → v ≡ Some it → IsUnopenedAbove trees old path it
  above v h it is_some = subst (λ (p : Path). IsUnopenedAbove trees old p it) (sym is) (halted_at trees head last [] old new queries v h it is_some).0

  pub upsert_error_of_halt : (why : directory.Error) (v : Option ObjectId) → StopsOpening IsNoTree trees head old new queries v
      → IsOpenErrorAt objects may_fail v why → IsUpsertError objects may_fail trees old path (edit_error why)
  upsert_error_of_halt opening.OutOfMemory v h r = (names, some)
  upsert_error_of_halt opening.MalformedTree None h r = absurd (cc r)
  upsert_error_of_halt opening.MalformedTree (Some it) h r = (names, (it, above (Some it) h it refl, r))
  upsert_error_of_halt (opening.FindExistingObject why) None h r = absurd (cc r)
  upsert_error_of_halt (opening.FindExistingObject why) (Some it) h r = (names, (it, above (Some it) h it refl, r))

-- the error of an opening isn't one of a name
pub no_name_error_of_opening : (why : directory.Error) → IsNameError (edit_error why) → ⊥
no_name_error_of_opening opening.OutOfMemory (inl is) = cc is
no_name_error_of_opening opening.OutOfMemory (inr is) = cc is
no_name_error_of_opening opening.MalformedTree (inl is) = cc is
no_name_error_of_opening opening.MalformedTree (inr is) = cc is
no_name_error_of_opening (opening.FindExistingObject why) (inl is) = cc is
no_name_error_of_opening (opening.FindExistingObject why) (inr is) = cc is

pub no_name_error_of_memory : (failure : Error) → failure ≡ error.OutOfMemory → IsNameError failure → ⊥
no_name_error_of_memory failure memory (inl is) = let bad : error.OutOfMemory ≡ error.EmptyPathComponent = sym memory ∙ is in cc bad
no_name_error_of_memory failure memory (inr is) = let bad : error.OutOfMemory ≡ error.SlashInPathComponent = sym memory ∙ is in cc bad
