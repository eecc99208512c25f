-- The files of open directories at and below one name, and what leaves them unchanged: for the proofs of each edit.
use Rattle.std.proofs.Common.{◌≡◌, ◌≢◌, ◌⊎◌, inl, inr, ℕ, zero, suc, Bool, true, false, cond, List, [], ◌∷◌, refl, sym, subst, ◌∙◌, Option, Some, None}
use mathlib.Core.Bool.{true≢false}
use Rattle.std.specs.Prelude.{MatchOption}
use Rattle.std.specs.Cmp.Lexicographic.{bytes_decides}
use Rattle.gixobj_tree_entries.specs.Entries.{EntryView}
use Rattle.gixobj_tree_entries.specs.Mode.{is_tree_mode}
use Rattle.gixobj_hash.specs.declared.hash.object_id.ObjectId.{ObjectId}
use Rattle.gixobj_editor_files.specs.Editing.{same_name}
use Rattle.gixobj_editor_files.specs.Files.{Below, FileSet, Files, Path, SameFiles, Table, is_null, resolves_to}
use Rattle.gixobj_editor_files.specs.Opening.{Dirs, HasAt, OpenFiles, in_dir}

pub name_eq_or_ne : (x y : List ℕ) → (x ≡ y) ⊎ (x ≢ y)
name_eq_or_ne x y = elim (same_name x y) as (λ b. same_name x y ≡ b → (x ≡ y) ⊎ (x ≢ y)) [
  | true ↦ λ e. inl ((bytes_decides x y).0 e)
  | false ↦ λ e. inr (λ q. true≢false (sym ((bytes_decides x y).1 q) ∙ e))
] refl

pub same_name_refl : (x : List ℕ) → same_name x x ≡ true
same_name_refl x = (bytes_decides x x).1 refl

pub same_name_false : (x y : List ℕ) → x ≢ y → same_name x y ≡ false
same_name_false x y n = elim (same_name x y) as (λ b. same_name x y ≡ b → b ≡ false) [
  | true ↦ λ e. absurd (n ((bytes_decides x y).0 e))
  | false ↦
      λ e. refl
] refl

-- the files at another name depend on the entries of that name and the directory there
pub open_files_of_other_name : (T : Table) (k : ℕ) (dirs next : Dirs) (name : List ℕ)
    → ((e : EntryView) → e.name ≡ name → HasAt (dirs []) e → HasAt (next []) e)
    → in_dir name dirs ≡ in_dir name next
    → (path : Path) (mode : ℕ) (id : ObjectId) → OpenFiles T (suc k) dirs (name ∷ path) mode id → OpenFiles T (suc k) next (name ∷ path) mode id
open_files_of_other_name T k dirs next name has same path mode id h = (
  h.0,
  has h.0 h.2 h.1,
  h.2,
  subst (λ (d : Dirs). MatchOption (d []) (Below T (Files T k) (h.0.mode) (h.0.id) path mode id)
      (λ _. OpenFiles T k d path mode id)) same h.3,
)

-- if the directory of a name is open, its files are the files at the name
pub open_files_into_open : (T : Table) (k : ℕ) (dirs : Dirs) (name : List ℕ) (es : List EntryView) → dirs (name ∷ []) ≡ Some es
    → (path : Path) (mode : ℕ) (id : ObjectId) → OpenFiles T (suc k) dirs (name ∷ path) mode id → OpenFiles T k (in_dir name dirs) path mode id
open_files_into_open T k dirs name es is path mode id h =
    subst (λ (o : Option (List EntryView)). MatchOption o (Below T (Files T k) (h.0.mode) (h.0.id) path mode id)
    (λ _. OpenFiles T k (in_dir name dirs) path mode id)) is h.3

pub open_files_of_open : (T : Table) (k : ℕ) (dirs : Dirs) (name : List ℕ) (es : List EntryView) (e : EntryView) → HasAt (dirs []) e → e.name ≡ name
    → dirs (name ∷ []) ≡ Some es
    → (path : Path) (mode : ℕ) (id : ObjectId) → OpenFiles T k (in_dir name dirs) path mode id → OpenFiles T (suc k) dirs (name ∷ path) mode id
open_files_of_open T k dirs name es e has named is path mode id h = (
  e,
  has,
  named,
  subst (λ (o : Option (List EntryView)). MatchOption o (Below T (Files T k) e.mode e.id path mode id)
      (λ _. OpenFiles T k (in_dir name dirs) path mode id)) (sym is) h,
)

-- if the directory of a name isn't open, its entry has the files at the name
pub open_files_into_unopened : (T : Table) (k : ℕ) (dirs : Dirs) (name : List ℕ) → dirs (name ∷ []) ≡ None
    → (path : Path) (mode : ℕ) (id : ObjectId) → OpenFiles T (suc k) dirs (name ∷ path) mode id → (e : EntryView) × HasAt (dirs []) e × (e.name ≡ name)
    × Below T (Files T k) e.mode e.id path mode id
open_files_into_unopened T k dirs name is path mode id h = (
  h.0,
  h.1,
  h.2,
  subst (λ (o : Option (List EntryView)). MatchOption o (Below T (Files T k) (h.0.mode) (h.0.id) path mode id)
      (λ _. OpenFiles T k (in_dir name dirs) path mode id)) is h.3,
)

pub open_files_of_unopened : (T : Table) (k : ℕ) (dirs : Dirs) (name : List ℕ) → dirs (name ∷ []) ≡ None → (e : EntryView) → HasAt (dirs []) e → e.name ≡ name
    → (path : Path) (mode : ℕ) (id : ObjectId) → Below T (Files T k) e.mode e.id path mode id → OpenFiles T (suc k) dirs (name ∷ path) mode id
open_files_of_unopened T k dirs name is e has named path mode id h = (
  e,
  has,
  named,
  subst (λ (o : Option (List EntryView)). MatchOption o (Below T (Files T k) e.mode e.id path mode id)
      (λ _. OpenFiles T k (in_dir name dirs) path mode id)) (sym is) h,
)

-- if no directory is open there are no files
pub no_open_files_of_none : (T : Table) (k : ℕ) (dirs : Dirs) → dirs [] ≡ None → (path : Path) (mode : ℕ) (id : ObjectId) → OpenFiles T k dirs path mode id → ⊥
no_open_files_of_none T zero dirs is path mode id h = h
no_open_files_of_none T (suc k) dirs is [] mode id h = h
no_open_files_of_none T (suc k) dirs is (name ∷ path) mode id h = subst (λ (o : Option (List EntryView)). HasAt o h.0) is h.1

-- an entry that isn't of tree mode has itself as its only file
pub path_nil_below_file : (T : Table) (files_of : List EntryView → FileSet) (m : ℕ) (named : ObjectId) → is_tree_mode m ≡ false
    → (path : Path) (mode : ℕ) (id : ObjectId) → Below T files_of m named path mode id → path ≡ []
path_nil_below_file T files_of m named other path mode id h =
    (subst (λ (b : Bool). MatchOption (cond b (T.tree_at named) None) ((path ≡ []) × (mode ≡ m) × (id ≡ named)) (λ es. files_of es path mode id) → path ≡ [])
    (sym other) (λ k. k.0)) h.1

-- a tree without entries has no files
pub no_open_files_of_no_entries : (T : Table) (k : ℕ) (path : Path) (mode : ℕ) (id : ObjectId) → Files T k [] path mode id → ⊥
no_open_files_of_no_entries T zero path mode id h = h
no_open_files_of_no_entries T (suc k) [] mode id h = h
no_open_files_of_no_entries T (suc k) (name ∷ path) mode id h = h.1

-- if the root alone is open, the files are those of its tree
pub open_files_of_root_alone : (T : Table) (n : ℕ) (dirs : Dirs) (es : List EntryView) → dirs [] ≡ Some es → ((name : List ℕ) → dirs (name ∷ []) ≡ None)
    → SameFiles (OpenFiles T n dirs) (Files T n es)
open_files_of_root_alone T zero dirs es root closed path mode id = ((λ h. absurd h), λ h. absurd h)
open_files_of_root_alone T (suc n) dirs es root closed [] mode id = ((λ h. absurd h), λ h. absurd h)
open_files_of_root_alone T (suc n) dirs es root closed (name ∷ path) mode id =
    let At : EntryView → Option (List EntryView) → Type 0 = λ e o. MatchOption o (Below T (Files T n) e.mode e.id path mode id)
    (λ _. OpenFiles T n (in_dir name dirs) path mode id) in (
      (λ h. (h.0, subst (λ o. HasAt o h.0) root h.1, h.2, subst (At h.0) (closed name) h.3)),
      λ h. (h.0, subst (λ o. HasAt o h.0) (sym root) h.1, h.2, subst (At h.0) (sym (closed name)) h.3),
    )

-- the id of an entry of tree mode names these entries; a null id names none
abbrev pub IsAt : Table → ObjectId → List EntryView → Type 0
IsAt T id es = ((is_null id ≡ true) × (es ≡ [])) ⊎ (T.tree_at id ≡ Some es)

pub files_below_of_table : (T : Table) (k m : ℕ) (named : ObjectId) (es : List EntryView) → is_tree_mode m ≡ true → IsAt T named es
    → SameFiles (Below T (Files T k) m named) (Files T k es)
files_below_of_table T k m named es tree (inl (null, empty)) path mode id =
    ((λ h. absurd (true≢false (sym null ∙ h.0))), λ h. absurd (no_open_files_of_no_entries T k path mode id (subst (λ l. Files T k l path mode id) empty h)))
files_below_of_table T k m named es tree (inr known) path mode id =
    let At : Option (List EntryView) → Type 0 = λ o. MatchOption o ((path ≡ []) × (mode ≡ m) × (id ≡ named)) (λ l. Files T k l path mode id) in
    let is : resolves_to T m named ≡ Some es = rw tree known in
    let filled : is_null named ≡ false = elim (is_null named) as (λ b. is_null named ≡ b → b ≡ false)
    [ true ↦ λ e. absurd (let none : Some es ≡ None = sym known ∙ T.nothing_by_null named e in cc none) | false ↦ λ e. refl ] refl in
    ((λ h. subst At is h.1), λ h. (filled, subst At (sym is) h))
