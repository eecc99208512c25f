-- An edit of one level changes the open directories at and below its name alone: for the functions of `open`, and for
-- openings.
use mathlib.Core.Bool.{true≢false}
use Rattle.std.proofs.Common.{◌≡◌, ◌≢◌, ◌∙◌, ◌++◌, ℕ, true, false, cond, List, [], ◌∷◌, Option, Some, None, length, refl, sym, ap, arith}
use Rattle.std.specs.Prelude.{◌==◌, IfNone}
use Rattle.std.specs.List.{position}
use Rattle.std.proofs.lemmas.Bool.{eqb-true}
use Rattle.std.proofs.lemmas.List.{append-nil, map-append}
use Rattle.std.specs.Option.{option_map}
use Rattle.std.specs.Cmp.Lexicographic.{bytes_decides}
use Rattle.bstr.specs.Owned.{bstring_bytes}
use Rattle.bstr.specs.declared.bstring.BString.{BString}
use Rattle.gixobj_tree_entries.specs.Entries.{EntryView}
use Rattle.gixobj_tree.specs.WellFormed.{EachLater}
use Rattle.gixobj_hash.specs.declared.hash.object_id.ObjectId.{ObjectId}
use Rattle.gixobj_editor_open.specs.Paths.{names_of}
use Rattle.gixobj_editor_files.specs.Editing.{same_name, with_entry, without}
use Rattle.gixobj_editor_files.specs.Edits.{ensured_dirs, entry_at, first_entry_of, only_open, or_empty, removed_dirs, upserted_dirs, with_dir, with_directory}
use Rattle.gixobj_editor_files.specs.Edits.{with_path}
use Rattle.gixobj_editor_files.specs.Files.{Path}
use Rattle.gixobj_editor_open.specs.Nested.{Opened, Part, base_side, bases_of, called, dirs_of, in_part, opened, parts}
use Rattle.gixobj_editor_files.specs.Opening.{Dirs, in_dir}
use Rattle.gixobj_editor_open.specs.declared.open.Child.{Child}
use Rattle.gixobj_editor_open.proofs.Levels.{Becomes, IsChild, dirs_of_opened_cons, bases_of_cons, in_part_of_child, found_by, dirs_of_cons, dirs_of_nil}
use Rattle.gixobj_editor_open.proofs.Levels.{in_part_none}
use Rattle.gixobj_editor_files.proofs.RemovedFiles.{removed_dirs_of_none}

-- a path of one name, and one of more
pub names_of_last : (path : List BString) (name : BString) (rest : List BString) → path ≡ name ∷ rest → true ≡ (length rest == 0)
    → names_of path ≡ bstring_bytes name ∷ []
names_of_last path name [] is end = ap names_of is
names_of_last path name (next ∷ rest) is end = let none : length (next ∷ rest) ≡ 0 = eqb-true (length (next ∷ rest)) 0 (sym end) in absurd (omega (arith, none))

pub record More (path : List BString) (name : BString) (rest : List BString) : Type 0 where
  pub next : List ℕ
  pub after : Path
  pub rest_is : names_of rest ≡ next ∷ after
  pub path_is : names_of path ≡ bstring_bytes name ∷ next ∷ after

pub more_names_remain : (path : List BString) (name : BString) (rest : List BString) → path ≡ name ∷ rest → false ≡ (length rest == 0) → More path name rest
more_names_remain path name [] is end = absurd (true≢false (sym end))
more_names_remain path name (next ∷ rest) is end = record { next = bstring_bytes next; after = names_of rest; rest_is = refl; path_is = ap names_of is }

-- the open directories in a name, as a function of the path
pub in_dir_of_part : (ds : Opened) (es : List EntryView) (ps : List Part) {base : List EntryView} → opened es base ps ≡ ds → EachLater (λ x y. x.0 ≢ y.0) ps
    → (name : List ℕ) → in_dir name (dirs_of ds) ≡ in_part name ps
in_dir_of_part ds es ps is apart name = λ i path. dirs_of_cons ds es ps is apart name path i

module _ (old : Opened) (es es' : List EntryView) (ps ps' : List Part) {base : List EntryView} (view : opened es base ps ≡ old)
    (apart : EachLater (λ x y. x.0 ≢ y.0) ps) (apart' : EachLater (λ x y. x.0 ≢ y.0) ps') (name : List ℕ) (next : Dirs)
    (becomes : Becomes name next ps ps') where
  -- the open directories at another path than the directory's own
  elsewhere : (first : List ℕ) (path : Path) → dirs_of (opened es' [] ps') (first ∷ path) ≡ cond (same_name name first) (next path) (dirs_of old (first ∷ path))
  elsewhere first path = dirs_of_opened_cons es' [] ps' first path apart' ∙ becomes.says first path ∙ ap (λ o. cond (same_name name first) (next path) o)
      (sym (dirs_of_cons old es ps view apart first path))

  pub inserted_last : (mode : ℕ) (id null : ObjectId) → es' ≡ with_entry (record { mode = mode; name = name; id = id }) es → ((path : Path) → next path ≡ None)
      → (at : Path) → dirs_of (opened es' [] ps') at ≡ upserted_dirs (name ∷ []) mode id null (dirs_of old) at
  inserted_last mode id null is gone [] = ap Some is ∙ ap (λ o. Some (with_entry (record { mode = mode; name = name; id = id }) (or_empty o)))
      (sym (dirs_of_nil old es ps view))
  inserted_last mode id null is gone (first ∷ path) = elsewhere first path ∙ ap (λ o. cond (same_name name first) o (dirs_of old (first ∷ path))) (gone path)

  pub inserted_deeper : (second : List ℕ) (rest : Path) (mode : ℕ) (id null : ObjectId) → es' ≡ with_directory name null es
      → ((path : Path) → next path ≡ upserted_dirs (second ∷ rest) mode id null (in_part name ps) path)
      → (at : Path) → dirs_of (opened es' [] ps') at ≡ upserted_dirs (name ∷ second ∷ rest) mode id null (dirs_of old) at
  inserted_deeper second rest mode id null is below [] = ap Some is ∙ ap (λ o. Some (with_directory name null (or_empty o))) (sym (dirs_of_nil old es ps view))
  inserted_deeper second rest mode id null is below (first ∷ path) =
      elsewhere first path ∙ ap (λ o. cond (same_name name first) o (dirs_of old (first ∷ path)))
      (below path ∙ ap (λ (d : Dirs). upserted_dirs (second ∷ rest) mode id null d path) (sym (in_dir_of_part old es ps view apart name)))

  pub ensured_deeper : (rest : Path) (null : ObjectId) → es' ≡ with_directory name null es
      → ((path : Path) → next path ≡ ensured_dirs rest null (in_part name ps) path) → (at : Path) → dirs_of (opened es' [] ps') at ≡ ensured_dirs
      (name ∷ rest) null (dirs_of old) at
  ensured_deeper rest null is below [] = ap Some is ∙ ap (λ o. Some (with_directory name null (or_empty o))) (sym (dirs_of_nil old es ps view))
  ensured_deeper rest null is below (first ∷ path) =
      elsewhere first path ∙ ap (λ o. cond (same_name name first) o (dirs_of old (first ∷ path)))
      (below path ∙ ap (λ (d : Dirs). ensured_dirs rest null d path) (sym (in_dir_of_part old es ps view apart name)))

  pub taken_last : es' ≡ without name es → ((path : Path) → next path ≡ None) → (at : Path) → dirs_of (opened es' [] ps') at ≡ removed_dirs (name ∷ [])
      (dirs_of old) at
  taken_last is gone [] = ap Some is ∙ ap (option_map (without name)) (sym (dirs_of_nil old es ps view))
  taken_last is gone (first ∷ path) = elsewhere first path ∙ ap (λ o. cond (same_name name first) o (dirs_of old (first ∷ path))) (gone path)

  pub taken_deeper : (second : List ℕ) (rest : Path) → es' ≡ es → ((path : Path) → next path ≡ removed_dirs (second ∷ rest) (in_part name ps) path)
      → (at : Path) → dirs_of (opened es' [] ps') at ≡ removed_dirs (name ∷ second ∷ rest) (dirs_of old) at
  taken_deeper second rest is below [] = ap Some is ∙ sym (dirs_of_nil old es ps view)
  taken_deeper second rest is below (first ∷ path) =
      elsewhere first path ∙ ap (λ o. cond (same_name name first) o (dirs_of old (first ∷ path)))
      (below path ∙ ap (λ (d : Dirs). removed_dirs (second ∷ rest) d path) (sym (in_dir_of_part old es ps view apart name)))

  pub written_deeper : (rest : Path) (inner : Dirs) → es' ≡ es → ((path : Path) → next path ≡ with_path rest inner (in_part name ps) path) → (at : Path)
      → dirs_of (opened es' [] ps') at ≡ with_path (name ∷ rest) inner (dirs_of old) at
  written_deeper rest inner is below [] = ap Some is ∙ sym (dirs_of_nil old es ps view)
  written_deeper rest inner is below (first ∷ path) =
      elsewhere first path ∙ ap (λ o. cond (same_name name first) o (dirs_of old (first ∷ path)))
      (below path ∙ ap (λ (d : Dirs). with_path rest inner d path) (sym (in_dir_of_part old es ps view apart name)))

  -- the directories of one name are replaced
  pub replaced : es' ≡ es → (at : Path) → dirs_of (opened es' [] ps') at ≡ with_dir name next (dirs_of old) at
  replaced is [] = ap Some is ∙ sym (dirs_of_nil old es ps view)
  replaced is (first ∷ path) = elsewhere first path

-- a removal below a name that isn't open changes nothing
pub removed_dirs_of_unopened : (old : Opened) (es : List EntryView) (ps : List Part) {base : List EntryView} → opened es base ps ≡ old
    → EachLater (λ x y. x.0 ≢ y.0) ps
    → (name second : List ℕ) (rest : Path) → ((path : Path) → in_part name ps path ≡ None)
    → (at : Path) → dirs_of old at ≡ removed_dirs (name ∷ second ∷ rest) (dirs_of old) at
removed_dirs_of_unopened old es ps view apart name second rest none [] = refl
removed_dirs_of_unopened old es ps view apart name second rest none (first ∷ at) =
    let unopened : (q : Path) → dirs_of old (name ∷ q) ≡ None = λ q. dirs_of_cons old es ps view apart name q ∙ none q in
    elim (same_name name first) as
    (λ b. same_name name first ≡ b → dirs_of old (first ∷ at) ≡ cond b (removed_dirs (second ∷ rest) (in_dir name (dirs_of old)) at)
    (dirs_of old (first ∷ at))) [
      | true ↦ λ is. ap (λ n. dirs_of old (n ∷ at)) (sym ((bytes_decides name first).0 is)) ∙ unopened at
          ∙ sym (removed_dirs_of_none (second ∷ rest) (in_dir name (dirs_of old)) unopened at)
      | false ↦ λ is. refl
    ] refl

-- the entry at a path is that of the last name in the directory of the names before it
entry_at_of_parents : (parents : Path) (name : List ℕ) (dirs : Dirs) → entry_at (parents ++ name ∷ []) dirs ≡ first_entry_of name (dirs parents)
entry_at_of_parents [] name dirs = refl
entry_at_of_parents (first ∷ []) name dirs = refl
entry_at_of_parents (first ∷ next ∷ rest) name dirs = entry_at_of_parents (next ∷ rest) name (in_dir first dirs)

pub entry_at_of_last : (path parents : List BString) (name : BString) → path ≡ parents ++ name ∷ [] → (dirs : Dirs)
    → entry_at (names_of path) dirs ≡ first_entry_of (bstring_bytes name) (dirs (names_of parents ++ []))
entry_at_of_last path parents name is dirs =
    ap (λ (p : List BString). entry_at (names_of p) dirs) is
    ∙ ap (λ (p : Path). entry_at p dirs) (map-append bstring_bytes parents (name ∷ []))
    ∙ entry_at_of_parents (names_of parents) (bstring_bytes name) dirs
    ∙ ap (λ (p : Path). first_entry_of (bstring_bytes name) (dirs p)) (sym (append-nil (names_of parents)))

pub entry_at_none : (path : Path) → entry_at path (λ _. None) ≡ None
entry_at_none [] = refl
entry_at_none (name ∷ []) = refl
entry_at_none (name ∷ next ∷ rest) = entry_at_none (next ∷ rest)

-- an upsert into an empty open directory is that into one that isn't open
pub upserted_dirs_of_new : (name : List ℕ) (path : Path) (mode : ℕ) (id null : ObjectId) (at : Path)
    → upserted_dirs (name ∷ path) mode id null (dirs_of (opened [] [] [])) at
    ≡ upserted_dirs (name ∷ path) mode id null (λ _. None) at
upserted_dirs_of_new name [] mode id null [] = refl
upserted_dirs_of_new name [] mode id null (first ∷ at) = refl
upserted_dirs_of_new name (next ∷ rest) mode id null [] = refl
upserted_dirs_of_new name (next ∷ rest) mode id null (first ∷ at) = refl

-- a directory that is ensured in an open directory, in an empty one, and in one that isn't open
pub ensured_dirs_nil : (old : Opened) (es : List EntryView) (ps : List Part) {base : List EntryView} → opened es base ps ≡ old → (null : ObjectId) (at : Path)
    → dirs_of old at ≡ ensured_dirs [] null (dirs_of old) at
ensured_dirs_nil old es ps view null [] = let root : dirs_of old [] ≡ Some es = dirs_of_nil old es ps view in root ∙ ap (λ o. Some (or_empty o)) (sym root)
ensured_dirs_nil old es ps view null (first ∷ at) = refl

pub ensured_dirs_of_new : (path : Path) (null : ObjectId) (at : Path) → ensured_dirs path null (dirs_of (opened [] [] [])) at
    ≡ ensured_dirs path null (λ _. None) at
ensured_dirs_of_new [] null [] = refl
ensured_dirs_of_new [] null (first ∷ at) = refl
ensured_dirs_of_new (name ∷ rest) null [] = refl
ensured_dirs_of_new (name ∷ rest) null (first ∷ at) = refl

-- what is open at and below a path, after a search for its first name
module _ (old : Opened) (es : List EntryView) (cs : List Child) {base : List EntryView} (view : opened es base (parts cs) ≡ old)
    (apart : EachLater (λ x y. x.0 ≢ y.0) (parts cs)) (path : Path) {name : List ℕ} (rest : Path) (path_is : path ≡ name ∷ rest) where
  module _ {i : ℕ} {child : Child} (here : IsChild name cs i child) where
    pub path_down : (at : Path) → dirs_of old (path ++ at) ≡ dirs_of child.open (rest ++ at)
    path_down at = rw path_is (dirs_of_cons old es (parts cs) view apart name (rest ++ at) ∙ in_part_of_child here (rest ++ at))

    pub path_based : (at : Path) → bases_of old (path ++ at) ≡ bases_of child.open (rest ++ at)
    path_based at = rw path_is (bases_of_cons old es (parts cs) view apart name (rest ++ at) ∙ found_by base_side here (rest ++ at))

    pub dirs_down : dirs_of old path ≡ dirs_of child.open rest
    dirs_down = rw path_is (dirs_of_cons old es (parts cs) view apart name rest ∙ in_part_of_child here rest)

  pub unopened_without_child : None ≡ position (called name) cs → dirs_of old path ≡ None
  unopened_without_child found_at = rw path_is (dirs_of_cons old es (parts cs) view apart name rest ∙ in_part_none name cs found_at rest)

  pub path_unopened : None ≡ position (called name) cs → (at : Path) → dirs_of old (path ++ at) ≡ None
  path_unopened found_at at = rw path_is (dirs_of_cons old es (parts cs) view apart name (rest ++ at) ∙ in_part_none name cs found_at (rest ++ at))

-- a clause about none implies a weaker one
pub if_none_of : {X : Type 0} (r : Option X) {P Q : Type 0} → IfNone r P → (P → Q) → IfNone r Q
if_none_of None h f = f h
if_none_of (Some x) h f = tt

-- in a directory without open ones its own list alone is open
pub dirs_of_childless : (es : List EntryView) → dirs_of (opened es [] []) ≡ only_open es
dirs_of_childless es = λ i at. here at i
  where
    here : (at : Path) → dirs_of (opened es [] []) at ≡ only_open es at
    here [] = refl
    here (name ∷ path) = refl

-- a path of length zero has no names
pub names_of_nil : (path : List BString) → length path ≡ 0 → names_of path ≡ []
names_of_nil [] h = refl
names_of_nil (name ∷ rest) h = absurd (omega (arith, h))
