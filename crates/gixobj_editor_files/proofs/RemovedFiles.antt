-- A removal from the open directories drops the files at and below its path: for removals by the editor and
-- `Everywhere`.
use mathlib.Core.Bool.{true≢false}
use Rattle.std.proofs.Common.{◌≡◌, ◌≢◌, ◌⊎◌, inl, inr, ℕ, zero, suc, true, false, cond, List, [], ◌∷◌, ◌++◌, refl, sym, ap, subst, ◌∙◌, Option, Some, None}
use Rattle.std.specs.Prelude.{MatchOption}
use Rattle.std.specs.Option.{option_map}
use Rattle.gixobj_tree_entries.specs.Entries.{EntryView}
use Rattle.gixobj_tree_entries.specs.Mode.{is_tree_mode}
use Rattle.gixobj_hash.specs.declared.hash.object_id.ObjectId.{ObjectId}
use Rattle.gixobj_editor_files.specs.Editing.{same_name, without}
use Rattle.gixobj_editor_files.specs.Edits.{removed_dirs}
use Rattle.gixobj_editor_files.specs.Files.{Begins, Below, FileSet, Files, Path, Removed, SameFiles, Table, is_null}
use Rattle.gixobj_editor_files.specs.Opening.{Dirs, HasAt, OpenFiles, in_dir}
use Rattle.gixobj_editor_files.proofs.EditedFiles.{has_without_other, has_of_without, same_files_refl}
use Rattle.gixobj_editor_files.proofs.OpenedFiles.{open_files_of_other_name, open_files_of_open, open_files_into_open, open_files_into_unopened, same_name_refl}
use Rattle.gixobj_editor_files.proofs.OpenedFiles.{same_name_false, no_open_files_of_no_entries, path_nil_below_file, name_eq_or_ne}
use Rattle.gixobj_editor_files.proofs.UpsertedFiles.{begins_of_cons, begins_cons, begins_cons_name}

-- if no directory is open, a removal opens none
pub removed_dirs_of_none : (path : Path) (dirs : Dirs) → ((at : Path) → dirs at ≡ None) → (at : Path) → removed_dirs path dirs at ≡ None
removed_dirs_of_none [] dirs none at = none at
removed_dirs_of_none (name ∷ []) dirs none [] = ap (option_map (without name)) (none [])
removed_dirs_of_none (name ∷ []) dirs none (first ∷ at) = elim (same_name name first) as (λ b. cond b None (dirs (first ∷ at)) ≡ None)
    [ true ↦ refl | false ↦ none (first ∷ at) ]
removed_dirs_of_none (name ∷ next ∷ rest) dirs none [] = none []
removed_dirs_of_none (name ∷ next ∷ rest) dirs none (first ∷ at) =
    elim (same_name name first) as (λ b. cond b (removed_dirs (next ∷ rest) (in_dir name dirs) at) (dirs (first ∷ at)) ≡ None)
    [ true ↦ removed_dirs_of_none (next ∷ rest) (in_dir name dirs) (λ q. none (name ∷ q)) at | false ↦ none (first ∷ at) ]

-- no file is below the entry: it isn't of tree mode, or its id is null or the empty tree's
abbrev pub IsBare : Table → EntryView → Type 0
IsBare T e = (is_tree_mode e.mode ≡ false) ⊎ (is_null e.id ≡ true) ⊎ (T.tree_at e.id ≡ Some [])

-- each parent directory of the path is open, or has no files below it
abbrev pub IsReached : Table → Path → Dirs → Type 0
IsReached T [] dirs = Unit {0}
IsReached T (name ∷ []) dirs = Unit {0}
IsReached T (name ∷ next ∷ rest) dirs =
    (((e : EntryView) → HasAt (dirs []) e → e.name ≡ name → IsBare T e) × ((path : Path) → dirs (name ∷ path) ≡ None))
    ⊎ (((es : List EntryView) × (dirs (name ∷ []) ≡ Some es)) × IsReached T (next ∷ rest) (in_dir name dirs))

path_nil_below_bare : (T : Table) (k : ℕ) (e : EntryView) → IsBare T e → (path : Path) (mode : ℕ) (id : ObjectId)
    → Below T (Files T k) e.mode e.id path mode id
    → path ≡ []
path_nil_below_bare T k e (inl other) path mode id h = path_nil_below_file T (Files T k) e.mode e.id other path mode id h
path_nil_below_bare T k e (inr (inl null)) path mode id h = absurd (true≢false (sym null ∙ h.0))
path_nil_below_bare T k e (inr (inr empty)) path mode id h =
    (subst (λ (o : Option (List EntryView)). MatchOption (cond (is_tree_mode e.mode) o None) ((path ≡ []) × (mode ≡ e.mode) × (id ≡ e.id))
    (λ es. Files T k es path mode id) → path ≡ []) (sym empty)
    (elim (is_tree_mode e.mode) as (λ b. MatchOption (cond b (Some []) None) ((path ≡ []) × (mode ≡ e.mode) × (id ≡ e.id))
    (λ es. Files T k es path mode id)
    → path ≡ []) [ true ↦ λ l. absurd (no_open_files_of_no_entries T k path mode id l) | false ↦ λ l. l.0 ])) h.1

pub has_at_of_without : (name : List ℕ) (o : Option (List EntryView)) (e : EntryView) → HasAt (option_map (without name) o) e → HasAt o e × (e.name ≢ name)
has_at_of_without name None e h = absurd h
has_at_of_without name (Some es) e h = has_of_without name es e h

pub has_at_without_other : (name : List ℕ) (o : Option (List EntryView)) (e : EntryView) → HasAt o e → e.name ≢ name → HasAt (option_map (without name) o) e
has_at_without_other name None e h differ = absurd h
has_at_without_other name (Some es) e h differ = has_without_other name es e h differ

pub removed_dirs_in_dir : (name next : List ℕ) (rest : Path) (dirs : Dirs) → in_dir name (removed_dirs (name ∷ next ∷ rest) dirs) ≡ removed_dirs (next ∷ rest)
    (in_dir name dirs)
removed_dirs_in_dir name next rest dirs = ap (λ b path. cond b (removed_dirs (next ∷ rest) (in_dir name dirs) path) (dirs (name ∷ path))) (same_name_refl name)

pub removed_dirs_in_other_dir : (name first next : List ℕ) (rest : Path) (dirs : Dirs) → name ≢ first
    → in_dir first (removed_dirs (name ∷ next ∷ rest) dirs) ≡ in_dir first dirs
removed_dirs_in_other_dir name first next rest dirs differ = ap (λ b path. cond b (removed_dirs (next ∷ rest) (in_dir name dirs) path) (dirs (first ∷ path)))
    (same_name_false name first differ)

pub removed_name_in_other_dir : (name first : List ℕ) (dirs : Dirs) → name ≢ first → in_dir first (removed_dirs (name ∷ []) dirs) ≡ in_dir first dirs
removed_name_in_other_dir name first dirs differ = ap (λ b path. cond b None (dirs (first ∷ path))) (same_name_false name first differ)

removed_dirs_root_open : (path : Path) (dirs : Dirs) (es : List EntryView) → dirs [] ≡ Some es → (remaining : List EntryView)
    × (removed_dirs path dirs [] ≡ Some remaining)
removed_dirs_root_open [] dirs es is = (es, is)
removed_dirs_root_open (name ∷ []) dirs es is = (without name es, ap (option_map (without name)) is)
removed_dirs_root_open (name ∷ next ∷ rest) dirs es is = (es, is)

pub removed_dirs_files : (T : Table) (n : ℕ) (path : Path) (dirs : Dirs) → IsReached T path dirs → SameFiles (OpenFiles T n (removed_dirs path dirs))
    (Removed path (OpenFiles T n dirs))
removed_dirs_files T n [] dirs ready path mode id = same_files_refl (OpenFiles T n dirs) path mode id
removed_dirs_files T zero (name ∷ p) dirs ready path mode id = ((λ h. absurd h), λ h. absurd h.0)
removed_dirs_files T (suc k) (name ∷ p) dirs ready [] mode id = ((λ h. absurd h), λ h. absurd h.0)
removed_dirs_files T (suc k) (name ∷ []) dirs ready (first ∷ path) mode id =
    let new : Dirs = removed_dirs (name ∷ []) dirs in
    elim (name_eq_or_ne name first) [
      | inl same ↦ ((λ h. absurd ((has_at_of_without name (dirs []) h.0 h.1).1 (h.2 ∙ sym same))), λ h. absurd (h.1 (path, ap (λ f. f ∷ path) (sym same))))
      | inr differ ↦ (
        (λ h. (
          open_files_of_other_name T k new dirs first (λ e named_so has. (has_at_of_without name (dirs []) e has).0)
              (removed_name_in_other_dir name first dirs differ) path mode id h,
          λ b. differ (sym (begins_cons_name name first [] path b)),
        )),
        λ h. open_files_of_other_name T k dirs new first (λ e named_so has. has_at_without_other name (dirs []) e has (λ q. differ (sym q ∙ named_so)))
            (sym (removed_name_in_other_dir name first dirs differ)) path mode id h.0,
      )
    ]
removed_dirs_files T (suc k) (name ∷ next ∷ rest) dirs ready (first ∷ path) mode id =
    let new : Dirs = removed_dirs (name ∷ next ∷ rest) dirs in
    let below : Dirs = removed_dirs (next ∷ rest) (in_dir name dirs) in
    let old : FileSet = OpenFiles T (suc k) dirs in
    elim (name_eq_or_ne name first) [
      | inl same ↦ subst (λ f. (OpenFiles T (suc k) new (f ∷ path) mode id → Removed (name ∷ next ∷ rest) old (f ∷ path) mode id)
          × (Removed (name ∷ next ∷ rest) old (f ∷ path) mode id → OpenFiles T (suc k) new (f ∷ path) mode id)) same
          (let inside : in_dir name new ≡ below = removed_dirs_in_dir name next rest dirs in
          elim ready [
            | inl unopened ↦
                let none : (at : Path) → in_dir name dirs at ≡ None = unopened.1 in
                let still : in_dir name new ≡ in_dir name dirs =
                inside ∙ (λ i at. (removed_dirs_of_none (next ∷ rest) (in_dir name dirs) none at ∙ sym (none at)) i) in (
                  (λ h. let was = open_files_of_other_name T k new dirs name (λ e named_so has. has) still path mode id h in (
                    was,
                    λ b. let s = open_files_into_unopened T k dirs name (none []) path mode id was in
                        let short : path ≡ [] = path_nil_below_bare T k s.0 (unopened.0 s.0 s.1 s.2) path mode id s.3 in
                        absurd (longer next rest (subst (λ p. Begins (next ∷ rest) p) short (begins_of_cons name (next ∷ rest) path b))),
                  )),
                  λ h. open_files_of_other_name T k dirs new name (λ e named_so has. has) (sym still) path mode id h.0,
                )
            | inr opened ↦
                let root = removed_dirs_root_open (next ∷ rest) (in_dir name dirs) (opened.0.0) (opened.0.1) in
                let is_open : new (name ∷ []) ≡ Some root.0 = ap (λ (d : Dirs). d []) inside ∙ root.1 in
                let step = removed_dirs_files T k (next ∷ rest) (in_dir name dirs) opened.1 path mode id in (
                  (λ h. let l = step.0 (subst (λ (d : Dirs). OpenFiles T k d path mode id) inside
                      (open_files_into_open T k new name root.0 is_open path mode id h)) in (
                        open_files_of_open T k dirs name (opened.0.0) h.0 h.1 h.2 (opened.0.1) path mode id l.0,
                        λ b. l.1
                            (begins_of_cons name (next ∷ rest) path b),
                      )),
                  λ h. open_files_of_open T k new name root.0 (h.0.0) (h.0.1) (h.0.2) is_open path mode id
                      (subst (λ (d : Dirs). OpenFiles T k d path mode id) (sym inside)
                      (step.1 (
                        open_files_into_open T k dirs name (opened.0.0) (opened.0.1) path mode id h.0,
                        λ b. h.1
                            (begins_cons name (next ∷ rest) path b),
                      ))),
                )
          ])
      | inr differ ↦ (
        (λ h. (
          open_files_of_other_name T k new dirs first (λ e named_so has. has) (removed_dirs_in_other_dir name first next rest dirs differ) path mode id h,
          λ b. differ
              (sym (begins_cons_name name first (next ∷ rest) path b)),
        )),
        λ h. open_files_of_other_name T k dirs new first (λ e named_so has. has)
            (sym (removed_dirs_in_other_dir name first next rest dirs differ)) path mode id h.0,
      )
    ]
  where
    longer : (x : List ℕ) (xs : Path) → Begins (x ∷ xs) [] → ⊥
    longer x xs b = none_is b.1
      where
        none_is : [] ≡ x ∷ (xs ++ b.0) → ⊥
        none_is e = cc e
