-- New directories along a path: what is open at and below them, and their bases. The proofs of `new_directories`,
-- `insert_entry` and `ensure_directory` use them.
use Rattle.std.proofs.Common.{◌≡◌, ◌≢◌, ◌∙◌, ℕ, true, false, cond, List, [], ◌∷◌, ◌++◌, Option, None, length, refl, sym, ap}
use Rattle.std.specs.Prelude.{◌==◌}
use Rattle.std.specs.List.{AllByRecursion}
use Rattle.std.proofs.lemmas.List.{append_assoc, map-append}
use Rattle.bstr.specs.Owned.{bstring_bytes}
use Rattle.bstr.specs.declared.bstring.BString.{BString}
use Rattle.gixobj_hash.specs.declared.hash.object_id.ObjectId.{ObjectId}
use Rattle.gixobj_tree_entries.specs.Entries.{EntryView}
use Rattle.gixobj_editor_files.specs.Bases.{base_edited}
use Rattle.gixobj_editor_files.specs.Editing.{same_name}
use Rattle.gixobj_editor_files.specs.Edits.{ensured_dirs, only_open, upserted_dirs, with_dir, with_directory}
use Rattle.gixobj_editor_files.specs.Files.{Path}
use Rattle.gixobj_editor_files.specs.Opening.{Dirs}
use Rattle.gixobj_editor_open.specs.Paths.{names_of}
use Rattle.gixobj_editor_open.specs.Nested.{IsLevel, Opened, base_side, bases_of, dirs_of, opened}
use Rattle.gixobj_editor_open.specs.NewDirectories.{AreNew, nested_dirs}
use Rattle.gixobj_editor_open.proofs.Levels.{at_name_by, dirs_of_opened_cons}

pub is_level_nil : IsLevel [] []
is_level_nil = record { formed = record { names = tt; apart = tt; ascending = tt }; ordered = tt; above = tt }

-- a directory with one in it
abbrev pub directory_with : List ℕ → ObjectId → Opened → Opened
directory_with name null ds = opened (with_directory name null []) [] ((name, ds) ∷ [])

dirs_of_directory_with : (name : List ℕ) (null : ObjectId) (ds : Opened) (at : Path)
    → dirs_of (directory_with name null ds) at ≡ with_dir name (dirs_of ds) (only_open (with_directory name null [])) at
dirs_of_directory_with name null ds [] = refl
dirs_of_directory_with name null ds (first ∷ at) = dirs_of_opened_cons (with_directory name null []) [] ((name, ds) ∷ []) first at (tt, tt)

pub are_new_directory_with : (name : List ℕ) (null : ObjectId) (ds : Opened) → AreNew ds → AreNew (directory_with name null ds)
are_new_directory_with name null ds new [] = refl
are_new_directory_with name null ds new (first ∷ at) =
    at_name_by base_side (with_directory name null []) [] ((name, ds) ∷ []) first at (tt, tt)
    ∙ (elim (same_name name first) as (λ b. cond b (bases_of ds at) None ≡ base_edited None (cond b (dirs_of ds at) None) None)
    [ true ↦ new at | false ↦ refl ])
    ∙ ap (λ o. base_edited None o None) (sym (dirs_of_opened_cons (with_directory name null []) [] ((name, ds) ∷ []) first at (tt, tt)))

pub are_new_of_entries : (es : List EntryView) → AreNew (opened es [] [])
are_new_of_entries es [] = refl
are_new_of_entries es (first ∷ at) = refl

-- one directory more above new ones
pub nested_dirs_cons : (name : List ℕ) (rest : Path) (null : ObjectId) (last : Dirs) (ds : Opened)
    → ((at : Path) → dirs_of ds at ≡ nested_dirs rest null last at) → (at : Path)
    → dirs_of (directory_with name null ds) at ≡ nested_dirs (name ∷ rest) null last at
nested_dirs_cons name rest null last ds inside at =
    let same : dirs_of ds ≡ nested_dirs rest null last = λ i q. inside q i in
    dirs_of_directory_with name null ds at ∙ ap (λ (d : Dirs). with_dir name d (only_open (with_directory name null [])) at) same

pub names_of_snoc : (path before : List BString) (name : BString) (gone : Path) → path ≡ before ++ name ∷ []
    → names_of path ++ gone ≡ names_of before ++ bstring_bytes name ∷ gone
names_of_snoc path before name gone is =
    ap (λ (p : List BString). names_of p ++ gone) is ∙ ap (λ (p : Path). p ++ gone) (map-append bstring_bytes before (name ∷ []))
    ∙ append_assoc (names_of before) (bstring_bytes name ∷ []) gone

pub holds_of_middle : {X : Type 0} (P : X → Type 0) (xs : List X) (x : X) (ys : List X) → AllByRecursion P (xs ++ x ∷ ys) → P x
holds_of_middle P [] x ys all = all.0
holds_of_middle P (y ∷ xs) x ys all = holds_of_middle P xs x ys all.1

pub all_of_first : {X : Type 0} (P : X → Type 0) (xs ys : List X) → AllByRecursion P (xs ++ ys) → AllByRecursion P xs
all_of_first P [] ys all = tt
all_of_first P (x ∷ xs) ys all = (all.0, all_of_first P xs ys all.1)

pub all_of_rest : {X : Type 0} (P : X → Type 0) (xs ys : List X) → AllByRecursion P (xs ++ ys) → AllByRecursion P ys
all_of_rest P [] ys all = all
all_of_rest P (x ∷ xs) ys all = all_of_rest P xs ys all.1

pub non_empty_of_test : {X : Type 0} (xs : List X) → false ≡ (length xs == 0) → xs ≢ []
non_empty_of_test [] test none = cc test
non_empty_of_test (x ∷ xs) test none = cc none

-- an upsert where nothing is open makes the directories of the path but for its last name, and the entry
pub upserted_dirs_of_none : (path : Path) (name : List ℕ) (mode : ℕ) (id null : ObjectId) (at : Path)
    → nested_dirs path null (only_open (record { mode = mode; name = name; id = id } ∷ [])) at
    ≡ upserted_dirs (path ++ name ∷ []) mode id null (λ _. None) at
upserted_dirs_of_none [] name mode id null [] = refl
upserted_dirs_of_none [] name mode id null (first ∷ at) =
    elim (same_name name first) as (λ b. ◌≡◌ {A = Option (List EntryView)} None (cond b None None)) [ true ↦ refl | false ↦ refl ]
upserted_dirs_of_none (n ∷ []) name mode id null [] = refl
upserted_dirs_of_none (n ∷ []) name mode id null (first ∷ at) =
    ap (λ o. cond (same_name n first) o None) (upserted_dirs_of_none [] name mode id null at)
upserted_dirs_of_none (n ∷ m ∷ path) name mode id null [] = refl
upserted_dirs_of_none (n ∷ m ∷ path) name mode id null (first ∷ at) =
    ap (λ o. cond (same_name n first) o None) (upserted_dirs_of_none (m ∷ path) name mode id null at)

-- a directory that is ensured where nothing is open
pub ensured_dirs_of_none : (path : Path) (null : ObjectId) (at : Path) → nested_dirs path null (only_open []) at ≡ ensured_dirs path null (λ _. None) at
ensured_dirs_of_none [] null [] = refl
ensured_dirs_of_none [] null (first ∷ at) = refl
ensured_dirs_of_none (name ∷ path) null [] = refl
ensured_dirs_of_none (name ∷ path) null (first ∷ at) = ap (λ o. cond (same_name name first) o None) (ensured_dirs_of_none path null at)

pub nested_dirs_same : (path : Path) (null : ObjectId) (last other : Dirs) → ((at : Path) → last at ≡ other at) → (at : Path)
    → nested_dirs path null last at ≡ nested_dirs path null other at
nested_dirs_same path null last other same at = let is : last ≡ other = λ i q. same q i in ap (λ (d : Dirs). nested_dirs path null d at) is
