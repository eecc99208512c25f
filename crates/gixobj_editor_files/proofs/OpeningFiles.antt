-- An opening of directories as the trees of their ids changes no file, and an edit at the path may follow: for the
-- editor's edits and `Based`.
use Rattle.std.proofs.Common.{◌≡◌, ◌≢◌, inl, inr, ℕ, zero, suc, false, cond, List, [], ◌∷◌, ◌++◌, refl, sym, ap, subst, ◌∙◌, Option, Some, None}
use Rattle.gixobj_tree_entries.specs.Entries.{EntryView}
use Rattle.gixobj_tree_entries.specs.Mode.{is_tree_mode}
use Rattle.gixobj_hash.specs.Hash.{id_kind}
use Rattle.gixobj_hash.specs.declared.hash.object_id.ObjectId.{ObjectId}
use Rattle.gixobj_editor_files.specs.Edits.{Finds, IsNoTree, Opens, arrived, down, found, only_open, stops, with_dir}
use Rattle.gixobj_editor_files.specs.Files.{Below, Files, Path, SameFiles, Table, Trees}
use Rattle.gixobj_editor_files.specs.Opening.{Dirs, HasAt, OpenFiles, in_dir}
use Rattle.gixobj_editor_files.specs.Tables.{AgreesWithStore}
use Rattle.gixobj_editor_files.proofs.EditedFiles.{same_files_refl}
use Rattle.gixobj_editor_files.proofs.UpsertedFiles.{IsReady}
use Rattle.gixobj_editor_files.proofs.OpenedFiles.{IsAt, files_below_of_table, open_files_of_other_name, open_files_of_open, open_files_of_unopened}
use Rattle.gixobj_editor_files.proofs.OpenedFiles.{open_files_into_open, open_files_into_unopened, same_name_refl, same_name_false, open_files_of_root_alone}
use Rattle.gixobj_editor_files.proofs.OpenedFiles.{name_eq_or_ne}

pub is_at_of_agreement : (T : Table) (trees : Trees) → AgreesWithStore T trees → (id : ObjectId) (entries : List EntryView) (looked_up : List ObjectId)
    → Finds trees id entries looked_up → IsAt T id entries
is_at_of_agreement T trees agrees id entries looked_up (formed, inl (inl null, empty, none)) = inl (null, empty)
is_at_of_agreement T trees agrees id entries looked_up (formed, inl (inr is, empty, none)) =
    inr (subst (λ (o : Option (List EntryView)). o ≡ Some entries) (sym (ap T.tree_at is ∙ T.none_in_empty (id_kind id))) (ap Some (sym empty)))
is_at_of_agreement T trees agrees id entries looked_up (formed, inr (filled, is, requests)) = inr (agrees id entries filled is)

pub with_dir_in_dir : (name : List ℕ) (inner dirs : Dirs) → in_dir name (with_dir name inner dirs) ≡ inner
with_dir_in_dir name inner dirs = ap (λ b path. cond b (inner path) (dirs (name ∷ path))) (same_name_refl name)

pub with_dir_in_other_dir : (name first : List ℕ) (inner dirs : Dirs) → name ≢ first → in_dir first (with_dir name inner dirs) ≡ in_dir first dirs
with_dir_in_other_dir name first inner dirs differ = ap (λ b path. cond b (inner path) (dirs (first ∷ path))) (same_name_false name first differ)

pub opens_keeps_root : {StopsBefore : EntryView → Type 0} (trees : Trees) (path : Path) (dirs new : Dirs) (looked_up : List ObjectId)
    → Opens StopsBefore trees path dirs new looked_up → new [] ≡ dirs []
opens_keeps_root trees path dirs new looked_up (arrived d) = refl
opens_keeps_root trees path dirs new looked_up (stops name rest d other none) = refl
opens_keeps_root trees path dirs new looked_up (down name rest d inner e entries more has named is opens) = refl
opens_keeps_root trees path dirs new looked_up (found name rest d inner e entries first more entry tree free none finds opens) = refl

-- at one level, the directories in a name have the same files as before
pub with_dir_files_of_level : (T : Table) (k : ℕ) (name : List ℕ) (inner dirs : Dirs)
    → ((path : Path) (mode : ℕ) (id : ObjectId)
    → (OpenFiles T (suc k) (with_dir name inner dirs) (name ∷ path) mode id → OpenFiles T (suc k) dirs (name ∷ path) mode id)
    × (OpenFiles T (suc k) dirs (name ∷ path) mode id → OpenFiles T (suc k) (with_dir name inner dirs) (name ∷ path) mode id))
    → SameFiles (OpenFiles T (suc k) (with_dir name inner dirs)) (OpenFiles T (suc k) dirs)
with_dir_files_of_level T k name inner dirs here [] mode id = ((λ h. absurd h), λ h. absurd h)
with_dir_files_of_level T k name inner dirs here (first ∷ path) mode id =
    let new : Dirs = with_dir name inner dirs in
    elim (name_eq_or_ne name first) [
      | inl same ↦ subst (λ f. (OpenFiles T (suc k) new (f ∷ path) mode id → OpenFiles T (suc k) dirs (f ∷ path) mode id)
          × (OpenFiles T (suc k) dirs (f ∷ path) mode id → OpenFiles T (suc k) new (f ∷ path) mode id)) same (here path mode id)
      | inr differ ↦ (
        open_files_of_other_name T k new dirs first (λ e named has. has) (with_dir_in_other_dir name first inner dirs differ) path mode id,
        open_files_of_other_name T k dirs new first
            (λ e named has. has) (sym (with_dir_in_other_dir name first inner dirs differ)) path mode id,
      )
    ]

pub opens_keeps_files : {StopsBefore : EntryView → Type 0} (T : Table) (trees : Trees) → AgreesWithStore T trees
    → (path : Path) (dirs new : Dirs) (looked_up : List ObjectId) → Opens StopsBefore trees path dirs new looked_up → (n : ℕ)
    → SameFiles (OpenFiles T n new) (OpenFiles T n dirs)
opens_keeps_files T trees agrees path dirs new looked_up (arrived d) n = same_files_refl (OpenFiles T n d)
opens_keeps_files T trees agrees path dirs new looked_up (stops name rest d other none) n = same_files_refl (OpenFiles T n d)
opens_keeps_files T trees agrees path dirs new looked_up (down name rest d inner e entries more has named is opens) zero =
    λ path mode id. ((λ h. absurd h), λ h. absurd h)
opens_keeps_files T trees agrees path dirs new looked_up (down name rest d inner e entries more has named is opens) (suc k) =
    with_dir_files_of_level T k name inner d (λ path mode id.
    let new : Dirs = with_dir name inner d in
    let inside = with_dir_in_dir name inner d in
    let is_new : new (name ∷ []) ≡ Some entries = ap (λ (x : Dirs). x []) inside ∙ opens_keeps_root trees rest (in_dir name d) inner more opens ∙ is in
    let step = opens_keeps_files T trees agrees rest (in_dir name d) inner more opens k path mode id in (
      (λ h. open_files_of_open T k d name entries e has named is path mode id
          (step.0 (subst (λ (x : Dirs). OpenFiles T k x path mode id) inside (open_files_into_open T k new name entries is_new path mode id h)))),
      λ h. open_files_of_open T k new name entries e has named is_new path mode id
          (subst (λ (x : Dirs). OpenFiles T k x path mode id) (sym inside) (step.1 (open_files_into_open T k d name entries is path mode id h))),
    ))
opens_keeps_files T trees agrees path dirs new looked_up (found name rest d inner e entries first more entry tree free none finds opens) zero =
    λ path mode id. ((λ h. absurd h), λ h. absurd h)
opens_keeps_files T trees agrees path dirs new looked_up (found name rest d inner e entries first more entry tree free none finds opens) (suc k) =
    with_dir_files_of_level T k name inner d (λ path mode id.
    let new : Dirs = with_dir name inner d in
    let inside = with_dir_in_dir name inner d in
    let is_new : new (name ∷ []) ≡ Some entries = ap (λ (x : Dirs). x []) inside ∙ opens_keeps_root trees rest (only_open entries) inner more opens in
    let step = opens_keeps_files T trees agrees rest (only_open entries) inner more opens k path mode id in
    let alone = open_files_of_root_alone T k (only_open entries) entries refl (λ other. refl) path mode id in
    let below = files_below_of_table T k e.mode e.id entries tree (is_at_of_agreement T trees agrees e.id entries first finds) path mode id in (
      (λ h. open_files_of_unopened T k d name (none []) e entry.0 entry.1 path mode id
          (below.1 (alone.0 (step.0
          (subst (λ (x : Dirs). OpenFiles T k x path mode id) inside (open_files_into_open T k new name entries is_new path mode id h)))))),
      λ h. let s = open_files_into_unopened T k d name (none []) path mode id h in
          open_files_of_open T k new name entries e entry.0 entry.1 is_new path mode id
          (subst (λ (x : Dirs). OpenFiles T k x path mode id) (sym inside)
          (step.1 (alone.1 (below.0 (subst (λ (x : EntryView). Below T (Files T k) x.mode x.id path mode id) (entry.2 s.0 s.1 s.2) s.3))))),
    ))

-- after an opening an entry may be upserted at a name after the path
is_ready_cons_unopened : (name : List ℕ) (q : Path) (dirs : Dirs) → (((e : EntryView) → HasAt (dirs []) e → e.name ≡ name → is_tree_mode e.mode ≡ false)
    × ((path : Path) → dirs (name ∷ path) ≡ None)) → IsReady (name ∷ q) dirs
is_ready_cons_unopened name [] dirs unopened = tt
is_ready_cons_unopened name (next ∷ rest) dirs unopened = inl unopened

is_ready_cons_open : (name : List ℕ) (q : Path) (dirs : Dirs) → ((e : EntryView) × HasAt (dirs []) e × (e.name ≡ name))
    → ((es : List EntryView) × (dirs (name ∷ []) ≡ Some es)) → IsReady q (in_dir name dirs) → IsReady (name ∷ q) dirs
is_ready_cons_open name [] dirs entry is ready = tt
is_ready_cons_open name (next ∷ rest) dirs entry is ready = inr (entry, is, ready)

pub opens_makes_ready : (trees : Trees) (path : Path) (last : List ℕ) (dirs new : Dirs) (looked_up : List ObjectId)
    → Opens IsNoTree trees path dirs new looked_up
    → IsReady (path ++ last ∷ []) new
opens_makes_ready trees path last dirs new looked_up (arrived d) = tt
opens_makes_ready trees path last dirs new looked_up (stops name rest d other none) = is_ready_cons_unopened name (rest ++ last ∷ []) d (other, none)
opens_makes_ready trees path last dirs new looked_up (down name rest d inner e entries more has named is opens) =
    let inside = with_dir_in_dir name inner d in
    is_ready_cons_open name (rest ++ last ∷ []) (with_dir name inner d) (e, has, named)
    (entries, ap (λ (x : Dirs). x []) inside ∙ opens_keeps_root trees rest (in_dir name d) inner more opens ∙ is)
    (subst (IsReady (rest ++ last ∷ [])) (sym inside) (opens_makes_ready trees rest last (in_dir name d) inner more opens))
opens_makes_ready trees path last dirs new looked_up (found name rest d inner e entries first more entry tree free none finds opens) =
    let inside = with_dir_in_dir name inner d in
    is_ready_cons_open name (rest ++ last ∷ []) (with_dir name inner d) (e, entry.0, entry.1)
    (entries, ap (λ (x : Dirs). x []) inside ∙ opens_keeps_root trees rest (only_open entries) inner more opens)
    (subst (IsReady (rest ++ last ∷ [])) (sym inside) (opens_makes_ready trees rest last (only_open entries) inner more opens))
