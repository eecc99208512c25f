-- An upsert into the open directories makes the same files as an upsert of the files, however the directories are
-- stored: for the editor and `Everywhere`.
use Rattle.std.proofs.Common.{◌≡◌, ◌≢◌, ◌⊎◌, inl, inr, ⊎_elim, ℕ, zero, suc, ◌-◌, true, false, cond, List, [], ◌∷◌, ◌++◌, length, refl, sym, ap, subst, ◌∙◌}
use Rattle.std.proofs.Common.{arith, Option, Some, None}
use Rattle.gixobj_tree_entries.specs.Entries.{EntryView}
use Rattle.gixobj_tree_entries.specs.Mode.{is_tree_mode, tree_type}
use Rattle.gixobj_hash.specs.declared.hash.object_id.ObjectId.{ObjectId}
use Rattle.gixobj_editor_files.specs.Editing.{has_tree, with_entry}
use Rattle.gixobj_editor_files.specs.Edits.{or_empty, upserted_dirs, with_directory}
use Rattle.gixobj_editor_files.specs.Files.{Begins, Below, FileSet, Files, ContainsEntry, Path, PlacedFile, SameFiles, Table, Upserted}
use Rattle.gixobj_editor_files.specs.Opening.{Dirs, HasAt, OpenFiles, in_dir}
use Rattle.gixobj_editor_files.proofs.EditedFiles.{has_with_entry_new, has_of_with_entry, has_with_entry_other, sub_len_one, same_files_refl}
use Rattle.gixobj_editor_files.proofs.HasTrees.{entry_of_has_tree, has_tree_with_directory}
use Rattle.gixobj_editor_files.proofs.OpenedFiles.{open_files_of_other_name, open_files_of_open, open_files_of_unopened, open_files_into_open}
use Rattle.gixobj_editor_files.proofs.OpenedFiles.{open_files_into_unopened, same_name_refl, same_name_false, path_nil_below_file, no_open_files_of_none}
use Rattle.gixobj_editor_files.proofs.OpenedFiles.{name_eq_or_ne}

-- a directory that is created leaves entries of other names unchanged
pub has_of_with_directory : (name : List ℕ) (null : ObjectId) (es : List EntryView) (e : EntryView) → e.name ≢ name
    → ContainsEntry (with_directory name null es) e
    → ContainsEntry es e
has_of_with_directory name null es e differ =
    let x : EntryView = record { mode = tree_type; name = name; id = null } in
    elim (has_tree name es) as (λ b. ContainsEntry (cond b es (with_entry x es)) e → ContainsEntry es e) [
      | true ↦ λ h. h
      | false ↦ λ h. ⊎_elim (λ same. absurd (differ (ap (λ (y : EntryView). y.name) (sym same)))) (λ old. old.0) (has_of_with_entry x es e h)
    ]

pub has_with_directory : (name : List ℕ) (null : ObjectId) (es : List EntryView) (e : EntryView) → e.name ≢ name → ContainsEntry es e
    → ContainsEntry (with_directory name null es) e
has_with_directory name null es e differ =
    let x : EntryView = record { mode = tree_type; name = name; id = null } in
    elim (has_tree name es) as (λ b. ContainsEntry es e → ContainsEntry (cond b es (with_entry x es)) e) [
      | true ↦ λ h. h
      | false ↦
          λ h. has_with_entry_other x es e h differ
    ]

-- a directory that was created has an entry
pub has_made_directory : (name : List ℕ) (null : ObjectId) (es : List EntryView)
    → (e : EntryView) × ContainsEntry (with_directory name null es) e × (e.name ≡ name)
has_made_directory name null es = let h = entry_of_has_tree name (with_directory name null es) (has_tree_with_directory name null es) in (h.0, h.1, h.2)

pub has_at_of_or_empty : (o : Option (List EntryView)) (e : EntryView) → ContainsEntry (or_empty o) e → HasAt o e
has_at_of_or_empty None e h = h
has_at_of_or_empty (Some es) e h = h

pub has_or_empty_of_has_at : (o : Option (List EntryView)) (e : EntryView) → HasAt o e → ContainsEntry (or_empty o) e
has_or_empty_of_has_at None e h = h
has_or_empty_of_has_at (Some es) e h = h

-- a path that begins with another does so with one name less
pub begins_of_cons : (name : List ℕ) (p q : Path) → Begins (name ∷ p) (name ∷ q) → Begins p q
begins_of_cons name p q b = (b.0, tail b.1)
  where
    tail : name ∷ q ≡ name ∷ (p ++ b.0) → q ≡ p ++ b.0
    tail e = cc e

pub begins_cons : (name : List ℕ) (p q : Path) → Begins p q → Begins (name ∷ p) (name ∷ q)
begins_cons name p q b = (b.0, ap (λ r. name ∷ r) b.1)

pub begins_cons_name : (name first : List ℕ) (p q : Path) → Begins (name ∷ p) (first ∷ q) → first ≡ name
begins_cons_name name first p q b = head b.1
  where
    head : first ∷ q ≡ name ∷ (p ++ b.0) → first ≡ name
    head e = cc e

-- the files of an inserted entry, with one name less
suc_sub_len_cons : (k : ℕ) (name : List ℕ) (p : Path) → suc k - length (name ∷ p) ≡ k - length p
suc_sub_len_cons k name p = omega arith

placed_file_cons : (T : Table) (k : ℕ) (name : List ℕ) (p : Path) (m : ℕ) (named : ObjectId) (path : Path) (mode : ℕ) (id : ObjectId)
    → PlacedFile T k p m named path mode id → PlacedFile T (suc k) (name ∷ p) m named (name ∷ path) mode id
placed_file_cons T k name p m named path mode id h =
    (omega (arith, h.0), h.1, ap (λ r. name ∷ r) h.2, subst (λ j. Below T (Files T j) m named h.1 mode id) (sym (suc_sub_len_cons k name p)) h.3)

placed_file_of_cons : (T : Table) (k : ℕ) (name : List ℕ) (p : Path) (m : ℕ) (named : ObjectId) (path : Path) (mode : ℕ) (id : ObjectId)
    → PlacedFile T (suc k) (name ∷ p) m named (name ∷ path) mode id → PlacedFile T k p m named path mode id
placed_file_of_cons T k name p m named path mode id h =
    (omega (arith, h.0), h.1, tail h.2, subst (λ j. Below T (Files T j) m named h.1 mode id) (suc_sub_len_cons k name p) h.3)
  where
    tail : name ∷ path ≡ name ∷ (p ++ h.1) → path ≡ p ++ h.1
    tail e = cc e

placed_file_name_eq : (T : Table) (k : ℕ) (name first : List ℕ) (p : Path) (m : ℕ) (named : ObjectId) (path : Path) (mode : ℕ) (id : ObjectId)
    → PlacedFile T k (name ∷ p) m named (first ∷ path) mode id → first ≡ name
placed_file_name_eq T k name first p m named path mode id h = begins_cons_name name first p path (h.1, h.2)

-- each parent directory of the path is open, as far as there are entries of tree mode
abbrev pub IsReady : Path → Dirs → Type 0
IsReady [] dirs = Unit {0}
IsReady (name ∷ []) dirs = Unit {0}
IsReady (name ∷ next ∷ rest) dirs =
    (((e : EntryView) → HasAt (dirs []) e → e.name ≡ name → is_tree_mode e.mode ≡ false) × ((path : Path) → dirs (name ∷ path) ≡ None))
    ⊎ (((e : EntryView) × HasAt (dirs []) e × (e.name ≡ name)) × ((es : List EntryView) × (dirs (name ∷ []) ≡ Some es))
    × IsReady (next ∷ rest) (in_dir name dirs))

is_ready_of_unopened : (path : Path) (dirs : Dirs) → ((at : Path) → dirs at ≡ None) → IsReady path dirs
is_ready_of_unopened [] dirs none = tt
is_ready_of_unopened (name ∷ []) dirs none = tt
is_ready_of_unopened (name ∷ next ∷ rest) dirs none =
    inl ((λ e h named. absurd (subst (λ (o : Option (List EntryView)). HasAt o e) (none []) h)), λ path. none (name ∷ path))

-- the directories in the first name of an edited path, and in another name
pub upserted_dirs_in_dir : (name next : List ℕ) (rest : Path) (m : ℕ) (named null : ObjectId) (dirs : Dirs)
    → in_dir name (upserted_dirs (name ∷ next ∷ rest) m named null dirs) ≡ upserted_dirs (next ∷ rest) m named null (in_dir name dirs)
upserted_dirs_in_dir name next rest m named null dirs =
    ap (λ b path. cond b (upserted_dirs (next ∷ rest) m named null (in_dir name dirs) path) (dirs (name ∷ path)))
    (same_name_refl name)

pub upserted_dirs_in_other_dir : (name first next : List ℕ) (rest : Path) (m : ℕ) (named null : ObjectId) (dirs : Dirs) → name ≢ first
    → in_dir first (upserted_dirs (name ∷ next ∷ rest) m named null dirs) ≡ in_dir first dirs
upserted_dirs_in_other_dir name first next rest m named null dirs differ =
    ap (λ b path. cond b (upserted_dirs (next ∷ rest) m named null (in_dir name dirs) path) (dirs (first ∷ path))) (same_name_false name first differ)

pub inserted_name_in_dir : (name : List ℕ) (m : ℕ) (named null : ObjectId) (dirs : Dirs)
    → in_dir name (upserted_dirs (name ∷ []) m named null dirs) ≡ (λ _. None)
inserted_name_in_dir name m named null dirs = ap (λ b path. cond b None (dirs (name ∷ path))) (same_name_refl name)

pub inserted_name_in_other_dir : (name first : List ℕ) (m : ℕ) (named null : ObjectId) (dirs : Dirs) → name ≢ first
    → in_dir first (upserted_dirs (name ∷ []) m named null dirs) ≡ in_dir first dirs
inserted_name_in_other_dir name first m named null dirs differ = ap (λ b path. cond b None (dirs (first ∷ path))) (same_name_false name first differ)

pub upserted_dirs_keep_root : (name : List ℕ) (path : Path) (m : ℕ) (named null : ObjectId) (dirs : Dirs) → (es : List EntryView)
    × (upserted_dirs (name ∷ path) m named null dirs [] ≡ Some es)
upserted_dirs_keep_root name [] m named null dirs = (with_entry (record { mode = m; name = name; id = named }) (or_empty (dirs [])), refl)
upserted_dirs_keep_root name (next ∷ rest) m named null dirs = (with_directory name null (or_empty (dirs [])), refl)

pub upserted_dirs_files : (T : Table) (n : ℕ) (path : Path) (m : ℕ) (named null : ObjectId) (dirs : Dirs) → IsReady path dirs
    → SameFiles (OpenFiles T n (upserted_dirs path m named null dirs)) (Upserted T n path m named (OpenFiles T n dirs))
upserted_dirs_files T n [] m named null dirs ready path mode id = same_files_refl (OpenFiles T n dirs) path mode id
upserted_dirs_files T zero (name ∷ p) m named null dirs ready path mode id = ((λ h. absurd h), ⊎_elim (λ h. absurd h.0) (λ h. absurd (omega (arith, h.0))))
upserted_dirs_files T (suc k) (name ∷ p) m named null dirs ready [] mode id = ((λ h. absurd h), ⊎_elim (λ h. absurd h.0) (λ h. cc (h.2)))
upserted_dirs_files T (suc k) (name ∷ []) m named null dirs ready (first ∷ path) mode id =
    let x : EntryView = record { mode = m; name = name; id = named } in
    let new : Dirs = upserted_dirs (name ∷ []) m named null dirs in
    elim (name_eq_or_ne name first) [
      | inl same ↦ subst (λ f. (OpenFiles T (suc k) new (f ∷ path) mode id → Upserted T (suc k) (name ∷ []) m named (OpenFiles T (suc k) dirs)
          (f ∷ path) mode id) × (Upserted T (suc k) (name ∷ []) m named (OpenFiles T (suc k) dirs) (f ∷ path) mode id
          → OpenFiles T (suc k) new (f ∷ path) mode id)) same
          (let gone : new (name ∷ []) ≡ None = ap (λ (d : Dirs). d []) (inserted_name_in_dir name m named null dirs) in (
            (λ h. let s = open_files_into_unopened T k new name gone path mode id h in
                ⊎_elim (λ is. inr (
                  omega arith,
                  path,
                  refl,
                  subst (λ j. Below T (Files T j) m named path mode id) (sym (sub_len_one k name))
                      (subst (λ (e : EntryView). Below T (Files T k) e.mode e.id path mode id) (sym is) s.3),
                ))
                (λ old. absurd (old.1 s.2)) (has_of_with_entry x (or_empty (dirs [])) s.0 s.1)),
            ⊎_elim (λ h. absurd (h.1 (path, refl)))
                (λ h. open_files_of_unopened T k new name gone x (has_with_entry_new x (or_empty (dirs []))) refl path mode id (at_rest h)),
          ))
      | inr differ ↦ (
        (λ h. inl (
          open_files_of_other_name T k new dirs first
              (λ e named_so has. has_at_of_or_empty (dirs []) e
              (⊎_elim (λ is. absurd (differ (ap (λ (y : EntryView). y.name) is ∙ named_so))) (λ old. old.0)
              (has_of_with_entry x (or_empty (dirs [])) e has)))
              (inserted_name_in_other_dir name first m named null dirs differ) path mode id h,
          (λ b. differ (sym (begins_cons_name name first [] path b))),
          (λ b. differ (begins_cons_name first name path [] b)),
        )),
        ⊎_elim (λ h. open_files_of_other_name T k dirs new first
            (λ e named_so has. has_with_entry_other x (or_empty (dirs [])) e (has_or_empty_of_has_at (dirs []) e has) (λ q. differ (sym q ∙ named_so)))
            (sym (inserted_name_in_other_dir name first m named null dirs differ)) path mode id h.0)
            (λ h. absurd (differ (sym (placed_file_name_eq T (suc k) name first [] m named path mode id h)))),
      )
    ]
  where
    at_rest : PlacedFile T (suc k) (name ∷ []) m named (name ∷ path) mode id → Below T (Files T k) m named path mode id
    at_rest h = let tail : path ≡ h.1 = cc (h.2) in subst (λ p. Below T (Files T k) m named p mode id) (sym tail)
        (subst (λ j. Below T (Files T j) m named h.1 mode id) (sub_len_one k name) h.3)
upserted_dirs_files T (suc k) (name ∷ next ∷ rest) m named null dirs ready (first ∷ path) mode id =
    let new : Dirs = upserted_dirs (name ∷ next ∷ rest) m named null dirs in
    let below : Dirs = upserted_dirs (next ∷ rest) m named null (in_dir name dirs) in
    let old : FileSet = OpenFiles T (suc k) dirs in
    elim (name_eq_or_ne name first) [
      | inl same ↦ subst (λ f. (OpenFiles T (suc k) new (f ∷ path) mode id → Upserted T (suc k) (name ∷ next ∷ rest) m named old (f ∷ path) mode id)
          × (Upserted T (suc k) (name ∷ next ∷ rest) m named old (f ∷ path) mode id → OpenFiles T (suc k) new (f ∷ path) mode id)) same
          (let inside : in_dir name new ≡ below = upserted_dirs_in_dir name next rest m named null dirs in
          let root = upserted_dirs_keep_root next rest m named null (in_dir name dirs) in
          let is_open : new (name ∷ []) ≡ Some root.0 = ap (λ (d : Dirs). d []) inside ∙ root.1 in
          let entry = has_made_directory name null (or_empty (dirs [])) in
          let into : OpenFiles T (suc k) new (name ∷ path) mode id → OpenFiles T k below path mode id =
          λ h. subst (λ (d : Dirs). OpenFiles T k d path mode id) inside (open_files_into_open T k new name root.0 is_open path mode id h) in
          let back : OpenFiles T k below path mode id → OpenFiles T (suc k) new (name ∷ path) mode id =
          λ h. open_files_of_open T k new name root.0 entry.0 entry.1 entry.2 is_open path mode id
          (subst (λ (d : Dirs). OpenFiles T k d path mode id) (sym inside) h) in
          elim ready [
            | inl unopened ↦
                let none : (at : Path) → in_dir name dirs at ≡ None = unopened.1 in
                let step = upserted_dirs_files T k (next ∷ rest) m named null (in_dir name dirs)
                (is_ready_of_unopened (next ∷ rest) (in_dir name dirs) none) path
                mode id in (
                  (λ h. ⊎_elim (λ l. absurd (no_open_files_of_none T k (in_dir name dirs) (none []) path mode id l.0))
                      (λ r. inr (placed_file_cons T k name (next ∷ rest) m named path mode id r)) (step.0 (into h))),
                  ⊎_elim (λ l. let s = open_files_into_unopened T k dirs name (none []) path mode id l.0 in
                      let short : path ≡ [] = path_nil_below_file T (Files T k) (s.0.mode) (s.0.id) (unopened.0 s.0 s.1 s.2) path mode id s.3 in
                      absurd (l.2 (next ∷ rest, subst (λ p. name ∷ next ∷ rest ≡ (name ∷ p) ++ next ∷ rest) (sym short) refl)))
                      (λ r. back (step.1 (inr (placed_file_of_cons T k name (next ∷ rest) m named path mode id r)))),
                )
            | inr opened ↦
                let step = upserted_dirs_files T k (next ∷ rest) m named null (in_dir name dirs) opened.2 path mode id in (
                  (λ h. ⊎_elim (λ l. inl (
                    open_files_of_open T k dirs name (opened.1.0) (opened.0.0) (opened.0.1) (opened.0.2) (opened.1.1) path mode id l.0,
                    (λ b. l.1 (begins_of_cons name (next ∷ rest) path b)),
                    λ b. l.2 (begins_of_cons name path (next ∷ rest) b),
                  ))
                      (λ r. inr (placed_file_cons T k name (next ∷ rest) m named path mode id r)) (step.0 (into h))),
                  ⊎_elim (λ l. back (step.1
                      (inl (
                        open_files_into_open T k dirs name (opened.1.0) (opened.1.1) path mode id l.0,
                        (λ b. l.1 (begins_cons name (next ∷ rest) path b)),
                        λ b. l.2
                            (begins_cons name path (next ∷ rest) b),
                      ))))
                      (λ r. back (step.1 (inr (placed_file_of_cons T k name (next ∷ rest) m named path mode id r)))),
                )
          ])
      | inr differ ↦ (
        (λ h. inl (
          open_files_of_other_name T k new dirs first
              (λ e named_so has. has_at_of_or_empty (dirs []) e (has_of_with_directory name null (or_empty (dirs [])) e (λ q. differ (sym q ∙ named_so)) has))
              (upserted_dirs_in_other_dir name first next rest m named null dirs differ) path mode id h,
          (λ b. differ (sym (begins_cons_name name first (next ∷ rest) path b))),
          (λ b. differ (begins_cons_name first name path (next ∷ rest) b)),
        )),
        ⊎_elim (λ h. open_files_of_other_name T k dirs new first (λ e named_so has. has_with_directory name null (or_empty (dirs [])) e
            (λ q. differ (sym q ∙ named_so))
            (has_or_empty_of_has_at (dirs []) e has)) (sym (upserted_dirs_in_other_dir name first next rest m named null dirs differ)) path mode id h.0)
            (λ h. absurd (differ (sym (placed_file_name_eq T (suc k) name first (next ∷ rest) m named path mode id h)))),
      )
    ]
