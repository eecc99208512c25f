-- A directory that is ensured drops the files at its path and at paths of parent directories: for cursors and the
-- invariants of open directories.
use Rattle.std.proofs.Common.{◌≡◌, ◌≢◌, ◌⊎◌, inl, inr, ℕ, zero, suc, false, cond, List, [], ◌∷◌, ◌++◌, refl, sym, ap, subst, ◌∙◌, Option, Some, None}
use Rattle.gixobj_tree_entries.specs.Entries.{EntryView}
use Rattle.gixobj_tree_entries.specs.Mode.{is_tree_mode}
use Rattle.gixobj_hash.specs.declared.hash.object_id.ObjectId.{ObjectId}
use Rattle.gixobj_editor_files.specs.Edits.{IsNoTree, Opens, arrived, ensured_dirs, down, found, only_open, or_empty, stops, with_directory}
use Rattle.gixobj_editor_files.specs.Files.{Ensured, Begins, FileSet, Files, Path, SameFiles, Table, Trees}
use Rattle.gixobj_editor_files.specs.Opening.{Dirs, HasAt, OpenFiles, in_dir}
use Rattle.gixobj_editor_files.proofs.OpenedFiles.{open_files_of_other_name, open_files_of_open, open_files_into_open, open_files_into_unopened, same_name_refl}
use Rattle.gixobj_editor_files.proofs.OpenedFiles.{same_name_false, path_nil_below_file, no_open_files_of_none, name_eq_or_ne}
use Rattle.gixobj_editor_files.proofs.OpeningFiles.{with_dir_in_dir, opens_keeps_root}
use Rattle.gixobj_editor_files.proofs.UpsertedFiles.{begins_of_cons, begins_cons, begins_cons_name, has_with_directory, has_of_with_directory}
use Rattle.gixobj_editor_files.proofs.UpsertedFiles.{has_or_empty_of_has_at, has_made_directory, has_at_of_or_empty}

-- the path and each parent directory of it is open, as far as there are entries of tree mode
abbrev pub IsOpenAlong : Path → Dirs → Type 0
IsOpenAlong [] dirs = Unit {0}
IsOpenAlong (name ∷ rest) dirs =
    (((e : EntryView) → HasAt (dirs []) e → e.name ≡ name → is_tree_mode e.mode ≡ false) × ((path : Path) → dirs (name ∷ path) ≡ None))
    ⊎ (((e : EntryView) × HasAt (dirs []) e × (e.name ≡ name)) × ((es : List EntryView) × (dirs (name ∷ []) ≡ Some es)) × IsOpenAlong rest (in_dir name dirs))

is_open_along_of_unopened : (path : Path) (dirs : Dirs) → ((at : Path) → dirs at ≡ None) → IsOpenAlong path dirs
is_open_along_of_unopened [] dirs none = tt
is_open_along_of_unopened (name ∷ rest) dirs none = inl (
  (λ e h named. absurd (subst (λ (o : Option (List EntryView)). HasAt o e) (none []) h)),
  λ path. none
      (name ∷ path),
)

-- an opening leaves the directories on its path open
pub is_open_along_of_opens : (trees : Trees) (path : Path) (dirs new : Dirs) (looked_up : List ObjectId) → Opens IsNoTree trees path dirs new looked_up
    → IsOpenAlong path new
is_open_along_of_opens trees path dirs new looked_up (arrived d) = tt
is_open_along_of_opens trees path dirs new looked_up (stops name rest d other none) = inl (other, none)
is_open_along_of_opens trees path dirs new looked_up (down name rest d inner e entries more has named is opens) =
    let inside = with_dir_in_dir name inner d in
    inr (
      (e, has, named),
      (entries, ap (λ (x : Dirs). x []) inside ∙ opens_keeps_root trees rest (in_dir name d) inner more opens ∙ is),
      subst (IsOpenAlong rest)
          (sym inside) (is_open_along_of_opens trees rest (in_dir name d) inner more opens),
    )
is_open_along_of_opens trees path dirs new looked_up (found name rest d inner e entries first more entry tree free none finds opens) =
    let inside = with_dir_in_dir name inner d in
    inr (
      (e, entry.0, entry.1),
      (entries, ap (λ (x : Dirs). x []) inside ∙ opens_keeps_root trees rest (only_open entries) inner more opens),
      subst (IsOpenAlong rest)
          (sym inside) (is_open_along_of_opens trees rest (only_open entries) inner more opens),
    )

-- the directories in the first name of an ensured path, and in another name
pub ensured_dirs_in_dir : (name : List ℕ) (rest : Path) (null : ObjectId) (dirs : Dirs)
    → in_dir name (ensured_dirs (name ∷ rest) null dirs) ≡ ensured_dirs rest null
    (in_dir name dirs)
ensured_dirs_in_dir name rest null dirs = ap (λ b path. cond b (ensured_dirs rest null (in_dir name dirs) path) (dirs (name ∷ path))) (same_name_refl name)

pub ensured_dirs_in_other_dir : (name first : List ℕ) (rest : Path) (null : ObjectId) (dirs : Dirs) → name ≢ first
    → in_dir first (ensured_dirs (name ∷ rest) null dirs) ≡ in_dir first dirs
ensured_dirs_in_other_dir name first rest null dirs differ = ap (λ b path. cond b (ensured_dirs rest null (in_dir name dirs) path) (dirs (first ∷ path)))
    (same_name_false name first differ)

ensured_dirs_root_open : (path : Path) (null : ObjectId) (dirs : Dirs) → (es : List EntryView) × (ensured_dirs path null dirs [] ≡ Some es)
ensured_dirs_root_open [] null dirs = (or_empty (dirs []), refl)
ensured_dirs_root_open (name ∷ rest) null dirs = (with_directory name null (or_empty (dirs [])), refl)

-- the files without those at a path and at paths of its parent directories
file_of_ensured : (path : Path) (files : FileSet) (at : Path) (mode : ℕ) (id : ObjectId) → Ensured path files at mode id → files at mode id
file_of_ensured [] files at mode id h = h
file_of_ensured (name ∷ rest) files at mode id h = h.0

ensured_of_file : (path : Path) (files : FileSet) (at : Path) (mode : ℕ) (id : ObjectId) → files at mode id → (Begins at path → ⊥)
    → Ensured path files at mode id
ensured_of_file [] files at mode id h apart = h
ensured_of_file (name ∷ rest) files at mode id h apart = (h, apart)

no_open_file_at_root : (T : Table) (k : ℕ) (dirs : Dirs) (mode : ℕ) (id : ObjectId) → OpenFiles T k dirs [] mode id → ⊥
no_open_file_at_root T zero dirs mode id h = h
no_open_file_at_root T (suc k) dirs mode id h = h

ensured_file_not_above_path : (T : Table) (k : ℕ) (path : Path) (dirs : Dirs) (at : Path) (mode : ℕ) (id : ObjectId)
    → Ensured path (OpenFiles T k dirs) at mode id
    → Begins at path → ⊥
ensured_file_not_above_path T k [] dirs [] mode id h b = no_open_file_at_root T k dirs mode id h
ensured_file_not_above_path T k [] dirs (name ∷ at) mode id h b = cc (b.1)
ensured_file_not_above_path T k (name ∷ rest) dirs at mode id h b = h.1 b

pub ensured_dirs_files_of_open : (T : Table) (n : ℕ) (path : Path) (null : ObjectId) (dirs : Dirs) → IsOpenAlong path dirs
    → SameFiles (OpenFiles T n (ensured_dirs path null dirs)) (Ensured path (OpenFiles T n dirs))
ensured_dirs_files_of_open T zero [] null dirs along path mode id = ((λ h. h), λ h. h)
ensured_dirs_files_of_open T (suc k) [] null dirs along [] mode id = ((λ h. h), λ h. h)
ensured_dirs_files_of_open T (suc k) [] null dirs along (first ∷ path) mode id = (
  open_files_of_other_name T k (ensured_dirs [] null dirs) dirs first (λ e named has. has_at_of_or_empty (dirs []) e has) refl path mode id,
  open_files_of_other_name T k dirs (ensured_dirs [] null dirs) first (λ e named has. has_or_empty_of_has_at (dirs []) e has) refl path mode id,
)
ensured_dirs_files_of_open T zero (name ∷ rest) null dirs along path mode id = ((λ h. absurd h), λ h. absurd h.0)
ensured_dirs_files_of_open T (suc k) (name ∷ rest) null dirs along [] mode id = ((λ h. absurd h), λ h. absurd h.0)
ensured_dirs_files_of_open T (suc k) (name ∷ rest) null dirs along (first ∷ path) mode id =
    let new : Dirs = ensured_dirs (name ∷ rest) null dirs in
    let below : Dirs = ensured_dirs rest null (in_dir name dirs) in
    let old : FileSet = OpenFiles T (suc k) dirs in
    elim (name_eq_or_ne name first) [
      | inl same ↦ subst (λ f. (OpenFiles T (suc k) new (f ∷ path) mode id → Ensured (name ∷ rest) old (f ∷ path) mode id)
          × (Ensured (name ∷ rest) old (f ∷ path) mode id → OpenFiles T (suc k) new (f ∷ path) mode id)) same
          (let inside : in_dir name new ≡ below = ensured_dirs_in_dir name rest null dirs in
          let root = ensured_dirs_root_open rest null (in_dir name dirs) in
          let is_open : new (name ∷ []) ≡ Some root.0 = ap (λ (d : Dirs). d []) inside ∙ root.1 in
          let entry = has_made_directory name null (or_empty (dirs [])) in
          let into : OpenFiles T (suc k) new (name ∷ path) mode id → OpenFiles T k below path mode id =
          λ h. subst (λ (d : Dirs). OpenFiles T k d path mode id) inside (open_files_into_open T k new name root.0 is_open path mode id h) in
          let back : OpenFiles T k below path mode id → OpenFiles T (suc k) new (name ∷ path) mode id =
          λ h. open_files_of_open T k new name root.0 entry.0 entry.1 entry.2 is_open path mode id
          (subst (λ (d : Dirs). OpenFiles T k d path mode id) (sym inside) h) in
          elim along [
            | inl unopened ↦
                let none : (at : Path) → in_dir name dirs at ≡ None = unopened.1 in
                let step = ensured_dirs_files_of_open T k rest null (in_dir name dirs)
                (is_open_along_of_unopened rest (in_dir name dirs) none) path mode id in (
                  (λ h. absurd (no_open_files_of_none T k (in_dir name dirs) (none []) path mode id
                      (file_of_ensured rest (OpenFiles T k (in_dir name dirs)) path mode id (step.0 (into h))))),
                  λ h. let s = open_files_into_unopened T k dirs name (none []) path mode id h.0 in
                      let short : path ≡ [] = path_nil_below_file T (Files T k) (s.0.mode) (s.0.id) (unopened.0 s.0 s.1 s.2) path mode id s.3 in
                      absurd (h.1 (rest, subst (λ p. name ∷ rest ≡ (name ∷ p) ++ rest) (sym short) refl)),
                )
            | inr opened ↦
                let step = ensured_dirs_files_of_open T k rest null (in_dir name dirs) opened.2 path mode id in (
                  (λ h. let l = step.0 (into h) in (
                    open_files_of_open T k dirs name (opened.1.0) (opened.0.0) (opened.0.1) (opened.0.2) (opened.1.1) path mode id
                        (file_of_ensured rest (OpenFiles T k (in_dir name dirs)) path mode id l),
                    λ b. ensured_file_not_above_path T k rest (in_dir name dirs) path mode id l (begins_of_cons name path rest b),
                  )),
                  λ h. back (step.1 (ensured_of_file rest (OpenFiles T k (in_dir name dirs)) path mode id
                      (open_files_into_open T k dirs name (opened.1.0) (opened.1.1) path mode id h.0) (λ b. h.1 (begins_cons name path rest b)))),
                )
          ])
      | inr differ ↦ (
        (λ h. (
          open_files_of_other_name T k new dirs first
              (λ e named_so has. has_at_of_or_empty (dirs []) e (has_of_with_directory name null (or_empty (dirs [])) e (λ q. differ (sym q ∙ named_so)) has))
              (ensured_dirs_in_other_dir name first rest null dirs differ) path mode id h,
          λ b. differ (begins_cons_name first name path rest b),
        )),
        λ h. open_files_of_other_name T k dirs new first (λ e named_so has. has_with_directory name null (or_empty (dirs [])) e (λ q. differ (sym q ∙ named_so))
            (has_or_empty_of_has_at (dirs []) e has)) (sym (ensured_dirs_in_other_dir name first rest null dirs differ)) path mode id h.0,
      )
    ]
