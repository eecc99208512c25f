-- The open directories at and below a path have the files there, and others that replace them change no other files:
-- for cursors and `Everywhere`.
use Rattle.std.proofs.Common.{◌≡◌, ◌≢◌, inl, inr, ℕ, ◌+◌, zero, suc, List, [], ◌∷◌, ◌++◌, append_assoc, append-nil, length, refl, sym, ap, subst, ◌∙◌, arith}
use Rattle.std.proofs.Common.{Option, Some, None}
use Rattle.std.specs.Prelude.{◌↔◌, IsTrue}
use Rattle.gixobj_tree_entries.specs.Entries.{EntryView}
use Rattle.gixobj_tree.specs.WellFormed.{IsWellFormed}
use Rattle.gixobj_tree_entries.specs.Mode.{is_tree_mode}
use Rattle.gixobj_editor_files.specs.Edits.{only_open, with_path}
use Rattle.gixobj_editor_files.specs.Files.{Begins, Path, SameFiles, Table}
use Rattle.gixobj_editor_files.specs.Opening.{Dirs, HasAt, IsOpened, OpenFiles, in_dir, in_path}
use Rattle.gixobj_editor_files.proofs.EditedFiles.{same_files_refl}
use Rattle.gixobj_editor_files.proofs.OpenedFiles.{open_files_of_open, open_files_into_open, name_eq_or_ne}
use Rattle.gixobj_editor_files.proofs.OpeningFiles.{with_dir_in_other_dir, with_dir_in_dir, with_dir_files_of_level}
use Rattle.gixobj_editor_files.proofs.StillOpenedOpenings.{is_opened_in_dir, is_opened_of_only, is_opened_with_dir}
use Rattle.gixobj_editor_files.proofs.UpsertedFiles.{begins_cons}

-- an open directory has a list, and a directory with an entry is open
pub list_at_open_prefix : (here : Option (List EntryView)) → here ≢ None → (es : List EntryView) × (here ≡ Some es)
list_at_open_prefix None some = absurd (some refl)
list_at_open_prefix (Some es) some = (es, refl)

open_of_has_at : (here : Option (List EntryView)) (e : EntryView) → HasAt here e → here ≢ None
open_of_has_at None e has = absurd has
open_of_has_at (Some es) e has = λ none. cc none

-- each parent directory of an open path is open
pub open_of_longer_open : (dirs : Dirs) → IsOpened dirs → (head back : Path) → dirs (head ++ back) ≢ None → dirs head ≢ None
open_of_longer_open dirs all head [] there = subst (λ p. dirs p ≢ None) (append-nil head) there
open_of_longer_open dirs all head (name ∷ back) there =
    let next = list_at_open_prefix (dirs (head ++ name ∷ []))
    (open_of_longer_open dirs all (head ++ name ∷ []) back (subst (λ p. dirs p ≢ None) (sym (append_assoc head (name ∷ []) back)) there)) in
    let e = all.above head name next.0 next.1 in
    open_of_has_at (dirs head) e.0 e.1

-- the directories at and below an open one satisfy the invariant of open directories
pub is_opened_in_path : (prefix : Path) (dirs : Dirs) → IsOpened dirs → dirs prefix ≢ None → IsOpened (in_path prefix dirs)
is_opened_in_path prefix dirs all there = record {
  root = subst (λ p. dirs p ≢ None) (sym (append-nil prefix)) there;
  well_formed = λ at. all.well_formed (prefix ++ at);
  above = λ at name es is. all.above (prefix ++ at) name es (subst (λ p. dirs p ≡ Some es) (sym (append_assoc prefix at (name ∷ []))) is);
}

-- the first directory on an open path has a list, and the root has an entry of tree mode for it
abbrev IsOnTheWay : List ℕ → Dirs → Type 0
IsOnTheWay name dirs = (es : List EntryView) × (dirs (name ∷ []) ≡ Some es)
    × ((e : EntryView) × HasAt (dirs []) e × (e.name ≡ name) × IsTrue (is_tree_mode e.mode))

is_on_the_way_of_open : (name : List ℕ) (rest : Path) (dirs : Dirs) → IsOpened dirs → dirs (name ∷ rest) ≢ None → IsOnTheWay name dirs
is_on_the_way_of_open name rest dirs all there =
    let next = list_at_open_prefix (dirs (name ∷ [])) (open_of_longer_open dirs all (name ∷ []) rest there) in
    (next.0, next.1, all.above [] name next.0 next.1)

-- a path adds its number of names to the depth
add_len_nil : (n : ℕ) (path : Path) → path ≡ [] → n ≡ n + length path
add_len_nil n path is = rw is (omega arith)

add_len_cons : (n : ℕ) (name : List ℕ) (rest : Path) → suc (n + length rest) ≡ n + length (name ∷ rest)
add_len_cons n name rest = omega arith

-- the files of the directories at and below an open one are the files below its path
pub files_in_path : (T : Table) (n : ℕ) (prefix : Path) (dirs : Dirs) → IsOpened dirs → dirs prefix ≢ None
    → SameFiles (OpenFiles T n (in_path prefix dirs))
    (λ path. OpenFiles T (n + length prefix) dirs (prefix ++ path))
files_in_path T n [] dirs all there path mode id =
    subst (λ k. OpenFiles T n dirs path mode id ↔ OpenFiles T k dirs path mode id) (add_len_nil n [] refl) (same_files_refl (OpenFiles T n dirs) path mode id)
files_in_path T n (name ∷ rest) dirs all there path mode id =
    let down = is_on_the_way_of_open name rest dirs all there in
    let k : ℕ = n + length rest in
    let step = files_in_path T n rest (in_dir name dirs) (is_opened_in_dir name dirs down.0 down.1 all) there path mode id in
    subst (λ m. OpenFiles T n (in_path (name ∷ rest) dirs) path mode id ↔ OpenFiles T m dirs (name ∷ (rest ++ path)) mode id) (add_len_cons n name rest) (
      (λ h. open_files_of_open T k dirs name down.0 (down.2.0) (down.2.1) (down.2.2) down.1 (rest ++ path) mode id (step.0 h)),
      λ h. step.1 (open_files_into_open T k dirs name down.0 down.1 (rest ++ path) mode id h),
    )

-- the root is open, whatever replaces a directory
with_path_keeps_root_open : (prefix : Path) (inner dirs : Dirs) → dirs [] ≢ None → inner [] ≢ None → with_path prefix inner dirs [] ≢ None
with_path_keeps_root_open [] inner dirs root full = full
with_path_keeps_root_open (name ∷ rest) inner dirs root full = root

-- directories with the files of those that they replace change no file
pub files_with_same_inner : (T : Table) (prefix : Path) (inner dirs : Dirs) → IsOpened dirs → dirs prefix ≢ None → inner [] ≢ None
    → ((k : ℕ) → SameFiles (OpenFiles T k inner) (OpenFiles T k (in_path prefix dirs)))
    → (n : ℕ) → SameFiles (OpenFiles T n (with_path prefix inner dirs)) (OpenFiles T n dirs)
files_with_same_inner T [] inner dirs all there full same n = same n
files_with_same_inner T (name ∷ rest) inner dirs all there full same zero = λ path mode id. ((λ h. absurd h), λ h. absurd h)
files_with_same_inner T (name ∷ rest) inner dirs all there full same (suc k) =
    let below : Dirs = with_path rest inner (in_dir name dirs) in
    let new : Dirs = with_path (name ∷ rest) inner dirs in
    let down = is_on_the_way_of_open name rest dirs all there in
    let lower = is_opened_in_dir name dirs down.0 down.1 all in
    let root = list_at_open_prefix (below []) (with_path_keeps_root_open rest inner (in_dir name dirs) lower.root full) in
    let inside : in_dir name new ≡ below = with_dir_in_dir name below dirs in
    let is_new : new (name ∷ []) ≡ Some root.0 = ap (λ (d : Dirs). d []) inside ∙ root.1 in
    with_dir_files_of_level T k name below dirs (λ path mode id.
    let step = files_with_same_inner T rest inner (in_dir name dirs) lower there full same k path mode id in (
      (λ h. open_files_of_open T k dirs name down.0 (down.2.0) (down.2.1) (down.2.2) down.1 path mode id
          (step.0 (subst (λ (d : Dirs). OpenFiles T k d path mode id) inside (open_files_into_open T k new name root.0 is_new path mode id h)))),
      λ h. open_files_of_open T k new name root.0 (down.2.0) (down.2.1) (down.2.2) is_new path mode id
          (subst (λ (d : Dirs). OpenFiles T k d path mode id) (sym inside) (step.1 (open_files_into_open T k dirs name down.0 down.1 path mode id h))),
    ))

-- open directories in place of those at a path satisfy the invariant of open directories
pub is_opened_with_path : (prefix : Path) (inner dirs : Dirs) → IsOpened dirs → dirs prefix ≢ None → IsOpened inner
    → IsOpened (with_path prefix inner dirs)
is_opened_with_path [] inner dirs all there within = within
is_opened_with_path (name ∷ rest) inner dirs all there within =
    let down = is_on_the_way_of_open name rest dirs all there in
    is_opened_with_dir name (with_path rest inner (in_dir name dirs)) dirs
    (is_opened_with_path rest inner (in_dir name dirs) (is_opened_in_dir name dirs down.0 down.1 all) there within) all down.2

pub is_opened_with_only : (prefix : Path) (written_tree : List EntryView) (dirs : Dirs) → IsOpened dirs → dirs prefix ≢ None → IsWellFormed written_tree
    → IsOpened (with_path prefix (only_open written_tree) dirs)
is_opened_with_only prefix written_tree dirs all there formed = is_opened_with_path prefix (only_open written_tree) dirs all there
    (is_opened_of_only written_tree formed)

-- at and below the path the directories are the replacement, and elsewhere they are unchanged
pub with_path_at_prefix : (prefix : Path) (inner dirs : Dirs) (at : Path) → with_path prefix inner dirs (prefix ++ at) ≡ inner at
with_path_at_prefix [] inner dirs at = refl
with_path_at_prefix (name ∷ rest) inner dirs at = ap (λ (d : Dirs). d (rest ++ at)) (with_dir_in_dir name (with_path rest inner (in_dir name dirs)) dirs)
    ∙ with_path_at_prefix rest inner
    (in_dir name dirs) at

pub with_path_off_prefix : (prefix : Path) (inner dirs : Dirs) (at : Path) → (Begins prefix at → ⊥) → with_path prefix inner dirs at ≡ dirs at
with_path_off_prefix [] inner dirs at next_to = absurd (next_to (at, refl))
with_path_off_prefix (name ∷ rest) inner dirs [] next_to = refl
with_path_off_prefix (name ∷ rest) inner dirs (first ∷ at) next_to =
    let below : Dirs = with_path rest inner (in_dir name dirs) in
    elim (name_eq_or_ne name first) [
      | inl same ↦ subst (λ f. with_path (name ∷ rest) inner dirs (f ∷ at) ≡ dirs (f ∷ at)) same
          (ap (λ (d : Dirs). d at) (with_dir_in_dir name below dirs) ∙ with_path_off_prefix rest inner (in_dir name dirs) at
          (λ b. next_to (subst (λ f. Begins (name ∷ rest) (f ∷ at)) same (begins_cons name rest at b))))
      | inr differ ↦ ap (λ (d : Dirs). d at) (with_dir_in_other_dir name first below dirs differ)
    ]
