-- Openings, edits and writes keep a property of each entry, its open directory and its base: for `Based`, `Plain` and
-- the editor.
use Rattle.std.proofs.Common.{◌≡◌, ◌≢◌, ◌⊎◌, inl, inr, ⊎_elim, ℕ, true, false, cond, List, [], ◌∷◌, ◌++◌, refl, sym, ap, subst, ◌∙◌, Option, Some, None}
use mathlib.Core.Bool.{true≢false}
use Rattle.std.specs.Option.{option_map}
use Rattle.gixobj_tree_entries.specs.Entries.{EntryView}
use Rattle.gixobj_tree_entries.specs.Mode.{is_tree_mode, tree_type}
use Rattle.gixobj_hash.specs.declared.hash.object_id.ObjectId.{ObjectId}
use Rattle.gixobj_editor_files.specs.Editing.{has_tree, with_entry, without}
use Rattle.gixobj_editor_files.specs.Edits.{Finds, Opens, arrived, ensured_dirs, down, found, only_open, or_empty, removed_dirs, stops, upserted_dirs, with_dir}
use Rattle.gixobj_editor_files.specs.Edits.{with_directory, with_path}
use Rattle.gixobj_editor_files.specs.Files.{ContainsEntry, Path, Trees}
use Rattle.gixobj_editor_files.specs.Opening.{Dirs, HasAt, in_dir}
use Rattle.gixobj_editor_files.proofs.EnsuredFiles.{IsOpenAlong, ensured_dirs_in_other_dir, ensured_dirs_in_dir}
use Rattle.gixobj_editor_files.proofs.EditedFiles.{has_of_with_entry}
use Rattle.gixobj_editor_files.proofs.HasTrees.{with_directory_of_tree, entry_of_has_tree, has_tree_of_entry}
use Rattle.gixobj_editor_files.proofs.OpenedFiles.{same_name_refl, name_eq_or_ne}
use Rattle.gixobj_editor_files.proofs.OpeningFiles.{with_dir_in_other_dir, with_dir_in_dir, opens_keeps_root}
use Rattle.gixobj_editor_files.proofs.RemovedFiles.{removed_dirs_in_other_dir, removed_dirs_in_dir, removed_name_in_other_dir, has_at_of_without}
use Rattle.gixobj_editor_files.proofs.StillOpened.{AreAbove}
use Rattle.gixobj_editor_files.proofs.UpsertedFiles.{IsReady, has_of_with_directory, has_at_of_or_empty, inserted_name_in_other_dir, inserted_name_in_dir}
use Rattle.gixobj_editor_files.proofs.UpsertedFiles.{upserted_dirs_in_other_dir, upserted_dirs_in_dir, upserted_dirs_keep_root}
use Rattle.gixobj_editor_files.specs.Bases.{base_edited, base_opened, edited_bases, opened_bases}
use Rattle.gixobj_editor_files.proofs.BelowPrefix.{list_at_open_prefix}

-- a property of an entry, of what is open at its name, and of the base there
abbrev pub OfEntry : Type 1
OfEntry = EntryView → Option (List EntryView) → Option (List EntryView) → Type 0

abbrev pub Everywhere : OfEntry → Dirs → Dirs → Type 0
Everywhere P dirs bases = (path : Path) (e : EntryView) → HasAt (dirs path) e → P e (dirs (path ++ e.name ∷ [])) (bases (path ++ e.name ∷ []))

-- a property lasts if it holds of a directory that is closed, without a base, and of an open one with any list; it also
-- has to hold of a created directory, of an opened one, and of the entries found in that
pub record Lasts (P : OfEntry) (trees : Trees) (null : ObjectId) : Type 0 where
  pub not_open : (e : EntryView) (base : Option (List EntryView)) → P e None base → P e None None
  pub still : (e : EntryView) (was now : List EntryView) (base : Option (List EntryView)) → P e (Some was) base → P e (Some now) base
  pub made : (name : List ℕ) (now : List EntryView) → P (record { mode = tree_type; name = name; id = null }) (Some now) (Some [])
  pub opened : (e : EntryView) (base : Option (List EntryView)) (entries : List EntryView) (looked_up : List ObjectId) → P e None base
      → is_tree_mode e.mode ≡ true → Finds trees e.id entries looked_up
      → P e (Some entries) (Some entries) × ((x : EntryView) → ContainsEntry entries x → P x None None)

module _ (P : OfEntry) (trees : Trees) (null : ObjectId) (lasts : Lasts P trees null) where
  -- a property at all paths follows from the root and from each name
  by_level : (dirs bases : Dirs) → ((e : EntryView) → HasAt (dirs []) e → P e (dirs (e.name ∷ [])) (bases (e.name ∷ [])))
      → ((first : List ℕ) → Everywhere P (in_dir first dirs) (in_dir first bases)) → Everywhere P dirs bases
  by_level dirs bases root deeper [] e h = root e h
  by_level dirs bases root deeper (first ∷ path) e h = deeper first path e h

  nowhere : (dirs bases : Dirs) → ((at : Path) → dirs at ≡ None) → Everywhere P dirs bases
  nowhere dirs bases none path e h = absurd (subst (λ (o : Option (List EntryView)). HasAt o e) (none path) h)

  -- a directory that is unchanged keeps the property
  settled : (e : EntryView) (o base : Option (List EntryView)) → P e o base → P e o (base_opened o o base)
  settled e None base p = lasts.not_open e base p
  settled e (Some l) base p = p

  edited : (e : EntryView) (o base : Option (List EntryView)) → P e o base → P e o (base_edited o o base)
  edited e None base p = lasts.not_open e base p
  edited e (Some l) base p = p

  all_settled : (dirs bases : Dirs) → Everywhere P dirs bases → Everywhere P dirs (opened_bases dirs dirs bases)
  all_settled dirs bases h path e has = settled e (dirs (path ++ e.name ∷ [])) (bases (path ++ e.name ∷ [])) (h path e has)

  all_edited : (dirs bases : Dirs) → Everywhere P dirs bases → Everywhere P dirs (edited_bases dirs dirs bases)
  all_edited dirs bases h path e has = edited e (dirs (path ++ e.name ∷ [])) (bases (path ++ e.name ∷ [])) (h path e has)

  stays_open : (e : EntryView) (o new base : Option (List EntryView)) (was now : List EntryView) → o ≡ Some was → new ≡ Some now → P e o base
      → P e new (base_edited o new base)
  stays_open e o new base was now is becomes p =
      subst (λ n. P e n (base_edited o n base)) (sym becomes)
      (subst (λ m. P e (Some now) (base_edited m (Some now) base)) (sym is) (lasts.still e was now base (subst (λ m. P e m base) is p)))

  -- a property of directories that were opened on a path
  opened_with : (name : List ℕ) (dirs inner bases : Dirs)
      → ((e : EntryView) → HasAt (dirs []) e → e.name ≡ name → P e (inner []) (base_opened (dirs (name ∷ [])) (inner []) (bases (name ∷ []))))
      → Everywhere P inner (opened_bases (in_dir name dirs) inner (in_dir name bases)) → Everywhere P dirs bases
      → Everywhere P (with_dir name inner dirs) (opened_bases dirs (with_dir name inner dirs) bases)
  opened_with name dirs inner bases here inside all =
      let new : Dirs = with_dir name inner dirs in
      by_level new (opened_bases dirs new bases)
      (λ e h. elim (name_eq_or_ne name e.name) [
        | inl same ↦ subst (λ n. P e (new (n ∷ [])) (base_opened (dirs (n ∷ [])) (new (n ∷ [])) (bases (n ∷ [])))) same
            (subst (λ (d : Dirs). P e (d []) (base_opened (dirs (name ∷ [])) (d []) (bases (name ∷ [])))) (sym (with_dir_in_dir name inner dirs))
            (here e h (sym same)))
        | inr differ ↦ subst (λ (d : Dirs). P e (d []) (base_opened (dirs (e.name ∷ [])) (d []) (bases (e.name ∷ []))))
            (sym (with_dir_in_other_dir name e.name inner dirs differ)) (settled e (dirs (e.name ∷ [])) (bases (e.name ∷ [])) (all [] e h))
      ])
      (λ first. elim (name_eq_or_ne name first) [
        | inl same ↦ subst (λ n. Everywhere P (in_dir n new) (in_dir n (opened_bases dirs new bases))) same
            (subst (λ (d : Dirs). Everywhere P d (opened_bases (in_dir name dirs) d (in_dir name bases))) (sym (with_dir_in_dir name inner dirs)) inside)
        | inr differ ↦ subst (λ (d : Dirs). Everywhere P d (opened_bases (in_dir first dirs) d (in_dir first bases)))
            (sym (with_dir_in_other_dir name first inner dirs differ)) (all_settled (in_dir first dirs) (in_dir first bases) (λ q. all (first ∷ q)))
      ])

  -- a property below a directory that wasn't open
  below_found : (name : List ℕ) (dirs inner bases : Dirs) (entries : List EntryView) → ((path : Path) → dirs (name ∷ path) ≡ None)
      → Everywhere P inner (opened_bases (only_open entries) inner (λ _. None))
      → Everywhere P inner (opened_bases (in_dir name dirs) inner (in_dir name bases))
  below_found name dirs inner bases entries none all [] e h =
      subst (λ o. P e (inner (e.name ∷ [])) (base_opened o (inner (e.name ∷ [])) (bases (name ∷ e.name ∷ [])))) (sym (none (e.name ∷ [])))
      (all [] e h)
  below_found name dirs inner bases entries none all (first ∷ path) e h =
      subst (λ o. P e (inner (first ∷ (path ++ e.name ∷ [])))
      (base_opened o (inner (first ∷ (path ++ e.name ∷ []))) (bases (name ∷ first ∷ (path ++ e.name ∷ [])))))
      (sym (none (first ∷ (path ++ e.name ∷ []))))
      (all (first ∷ path) e h)

  alone_everywhere : (entries : List EntryView) → ((x : EntryView) → ContainsEntry entries x → P x None None) → Everywhere P (only_open entries) (λ _. None)
  alone_everywhere entries each [] e h = each e h
  alone_everywhere entries each (first ∷ path) e h = absurd h

  pub everywhere_opened : {StopsBefore : EntryView → Type 0} (path : Path) (dirs new : Dirs) (looked_up : List ObjectId)
      → Opens StopsBefore trees path dirs new looked_up
      → (bases : Dirs) → Everywhere P dirs bases → Everywhere P new (opened_bases dirs new bases)
  everywhere_opened path dirs new looked_up (arrived d) bases all = all_settled d bases all
  everywhere_opened path dirs new looked_up (stops name rest d other none) bases all = all_settled d bases all
  everywhere_opened path dirs new looked_up (down name rest d inner e entries more has named is opens) bases all =
      opened_with name d inner bases
      (λ x h called. subst (λ o. P x o (base_opened (d (name ∷ [])) o (bases (name ∷ []))))
      (sym (opens_keeps_root trees rest (in_dir name d) inner more opens))
      (settled x (d (name ∷ [])) (bases (name ∷ [])) (subst (λ n. P x (d (n ∷ [])) (bases (n ∷ []))) called (all [] x h))))
      (everywhere_opened rest (in_dir name d) inner more opens (in_dir name bases) (λ q. all (name ∷ q))) all
  everywhere_opened path dirs new looked_up (found name rest d inner e entries first more entry tree free none finds opens) bases all =
      let p : P e None (bases (name ∷ [])) = subst (λ o. P e o (bases (name ∷ []))) (none [])
      (subst (λ n. P e (d (n ∷ [])) (bases (n ∷ []))) entry.1 (all [] e entry.0)) in
      let is = lasts.opened e (bases (name ∷ [])) entries first p tree finds in
      opened_with name d inner bases
      (λ x h called. subst (λ (y : EntryView). P y (inner []) (base_opened (d (name ∷ [])) (inner []) (bases (name ∷ [])))) (sym (entry.2 x h called))
      (subst (λ o. P e (inner []) (base_opened o (inner []) (bases (name ∷ [])))) (sym (none []))
      (subst (λ o. P e o o) (sym (opens_keeps_root trees rest (only_open entries) inner more opens)) is.0)))
      (below_found name d inner bases entries none
      (everywhere_opened rest (only_open entries) inner more opens (λ _. None) (alone_everywhere entries is.1))) all

  -- after an edit in the directory of a name, the directories of other names are unchanged
  edited_in : (name : List ℕ) (dirs new inner bases : Dirs) → in_dir name new ≡ inner
      → ((first : List ℕ) → name ≢ first → in_dir first new ≡ in_dir first dirs)
      → ((e : EntryView) → HasAt (new []) e → e.name ≡ name → P e (inner []) (base_edited (dirs (name ∷ [])) (inner []) (bases (name ∷ []))))
      → ((e : EntryView) → HasAt (new []) e → e.name ≢ name → HasAt (dirs []) e)
      → Everywhere P inner (edited_bases (in_dir name dirs) inner (in_dir name bases)) → Everywhere P dirs bases
      → Everywhere P new (edited_bases dirs new bases)
  edited_in name dirs new inner bases is next_to here others inside all =
      by_level new (edited_bases dirs new bases)
      (λ e h. elim (name_eq_or_ne name e.name) [
        | inl same ↦ subst (λ n. P e (new (n ∷ [])) (base_edited (dirs (n ∷ [])) (new (n ∷ [])) (bases (n ∷ [])))) same
            (subst (λ (d : Dirs). P e (d []) (base_edited (dirs (name ∷ [])) (d []) (bases (name ∷ [])))) (sym is) (here e h (sym same)))
        | inr differ ↦ subst (λ (d : Dirs). P e (d []) (base_edited (dirs (e.name ∷ [])) (d []) (bases (e.name ∷ [])))) (sym (next_to e.name differ))
            (edited e (dirs (e.name ∷ [])) (bases (e.name ∷ [])) (all [] e (others e h (λ q. differ (sym q)))))
      ])
      (λ first. elim (name_eq_or_ne name first) [
        | inl same ↦ subst (λ n. Everywhere P (in_dir n new) (in_dir n (edited_bases dirs new bases))) same
            (subst (λ (d : Dirs). Everywhere P d (edited_bases (in_dir name dirs) d (in_dir name bases))) (sym is) inside)
        | inr differ ↦ subst (λ (d : Dirs). Everywhere P d (edited_bases (in_dir first dirs) d (in_dir first bases))) (sym (next_to first differ))
            (all_edited (in_dir first dirs) (in_dir first bases) (λ q. all (first ∷ q)))
      ])

  -- an entry of tree mode with this name is that of a directory that is open or is created
  no_tree : (name : List ℕ) (o : Option (List EntryView)) → ((e : EntryView) → HasAt o e → e.name ≡ name → is_tree_mode e.mode ≡ false)
      → has_tree name (or_empty o) ≡ false
  no_tree name o none = elim (has_tree name (or_empty o)) as (λ b. has_tree name (or_empty o) ≡ b → b ≡ false) [
    | true ↦ λ is. let e = entry_of_has_tree name (or_empty o) is in absurd (true≢false (sym e.3 ∙ none e.0 (has_at_of_or_empty o e.0 e.1) e.2))
    | false ↦ λ is. refl
  ] refl

  a_tree : (name : List ℕ) (o : Option (List EntryView)) (e : EntryView) → HasAt o e → e.name ≡ name → is_tree_mode e.mode ≡ true
      → has_tree name (or_empty o) ≡ true
  a_tree name None e h named tree = absurd h
  a_tree name (Some es) e h named tree = has_tree_of_entry name es e h named tree

  made_entry : (name : List ℕ) (es : List EntryView) (e : EntryView) → has_tree name es ≡ false → ContainsEntry (with_directory name null es) e → e.name ≡ name
      → record { mode = tree_type; name = name; id = null } ≡ e
  made_entry name es e none h called =
      let x : EntryView = record { mode = tree_type; name = name; id = null } in
      ⊎_elim (λ same. same) (λ old. absurd (old.1 called)) (has_of_with_entry x es e (subst (λ b. ContainsEntry (cond b es (with_entry x es)) e) none h))

  -- the entry of a directory that an edit creates or finds open has the property
  directory_here : (name : List ℕ) (dirs bases : Dirs) (inner : Option (List EntryView)) (root : List EntryView) → inner ≡ Some root → AreAbove dirs
      → Everywhere P dirs bases
      → (((e : EntryView) → HasAt (dirs []) e → e.name ≡ name → is_tree_mode e.mode ≡ false) × (dirs (name ∷ []) ≡ None))
      ⊎ ((es : List EntryView) × (dirs (name ∷ []) ≡ Some es))
      → (e : EntryView) → ContainsEntry (with_directory name null (or_empty (dirs []))) e → e.name ≡ name
      → P e inner (base_edited (dirs (name ∷ [])) inner (bases (name ∷ [])))
  directory_here name dirs bases inner root is above all (inl unopened) e h called =
      let x : EntryView = record { mode = tree_type; name = name; id = null } in
      subst (λ (y : EntryView). P y inner (base_edited (dirs (name ∷ [])) inner (bases (name ∷ []))))
      (made_entry name (or_empty (dirs [])) e (no_tree name (dirs []) unopened.0) h called)
      (subst (λ o. P x o (base_edited (dirs (name ∷ [])) o (bases (name ∷ [])))) (sym is)
      (subst (λ o. P x (Some root) (base_edited o (Some root) (bases (name ∷ [])))) (sym unopened.1) (lasts.made name root)))
  directory_here name dirs bases inner root is above all (inr there) e h called =
      let up = above [] name there.0 there.1 in
      let old : HasAt (dirs []) e =
      has_at_of_or_empty (dirs []) e (subst (λ l. ContainsEntry l e) (with_directory_of_tree name null (or_empty (dirs []))
      (a_tree name (dirs []) up.0 up.1 up.2 up.3))
      h) in
      stays_open e (dirs (name ∷ [])) inner (bases (name ∷ [])) there.0 root there.1 is
      (subst (λ n. P e (dirs (n ∷ [])) (bases (n ∷ []))) called (all [] e old))

  -- an upsert keeps the property
  inserted_here : (name : List ℕ) (mode : ℕ) (id : ObjectId) (dirs bases : Dirs) → P (record { mode = mode; name = name; id = id }) None None
      → Everywhere P dirs bases
      → Everywhere P (upserted_dirs (name ∷ []) mode id null dirs) (edited_bases dirs (upserted_dirs (name ∷ []) mode id null dirs) bases)
  inserted_here name mode id dirs bases new all =
      let x : EntryView = record { mode = mode; name = name; id = id } in
      edited_in name dirs (upserted_dirs (name ∷ []) mode id null dirs) (λ _. None) bases (inserted_name_in_dir name mode id null dirs)
      (λ first differ. inserted_name_in_other_dir name first mode id null dirs differ)
      (λ e h called. ⊎_elim (λ same. subst (λ (y : EntryView). P y None None) same new) (λ old. absurd (old.1 called))
      (has_of_with_entry x (or_empty (dirs [])) e h))
      (λ e h other. ⊎_elim (λ same. absurd (other (ap (λ (y : EntryView). y.name) (sym same)))) (λ old. has_at_of_or_empty (dirs []) e old.0)
      (has_of_with_entry x (or_empty (dirs [])) e h))
      (nowhere (λ _. None) (edited_bases (in_dir name dirs) (λ _. None) (in_dir name bases)) (λ at. refl)) all

  ready_below : (name next : List ℕ) (rest : Path) (dirs : Dirs) → IsReady (name ∷ next ∷ rest) dirs → IsReady (next ∷ rest) (in_dir name dirs)
  ready_below name next [] dirs ready = tt
  ready_below name next (more ∷ rest) dirs (inl unopened) =
      inl ((λ e h called. absurd (subst (λ (o : Option (List EntryView)). HasAt o e) (unopened.1 []) h)), λ path. unopened.1 (next ∷ path))
  ready_below name next (more ∷ rest) dirs (inr opened) = opened.2

  ready_here : (name next : List ℕ) (rest : Path) (dirs : Dirs) → IsReady (name ∷ next ∷ rest) dirs
      → (((e : EntryView) → HasAt (dirs []) e → e.name ≡ name → is_tree_mode e.mode ≡ false) × (dirs (name ∷ []) ≡ None))
      ⊎ ((es : List EntryView) × (dirs (name ∷ []) ≡ Some es))
  ready_here name next rest dirs (inl unopened) = inl (unopened.0, unopened.1 [])
  ready_here name next rest dirs (inr opened) = inr opened.1

  pub everywhere_upserted : (path : Path) (mode : ℕ) (id : ObjectId) (dirs bases : Dirs)
      → ((name : List ℕ) → P (record { mode = mode; name = name; id = id }) None None) → IsReady path dirs → AreAbove dirs → Everywhere P dirs bases
      → Everywhere P (upserted_dirs path mode id null dirs) (edited_bases dirs (upserted_dirs path mode id null dirs) bases)
  everywhere_upserted [] mode id dirs bases new ready above all = all_edited dirs bases all
  everywhere_upserted (name ∷ []) mode id dirs bases new ready above all = inserted_here name mode id dirs bases (new name) all
  everywhere_upserted (name ∷ next ∷ rest) mode id dirs bases new ready above all =
      let root = upserted_dirs_keep_root next rest mode id null (in_dir name dirs) in
      edited_in name dirs (upserted_dirs (name ∷ next ∷ rest) mode id null dirs) (upserted_dirs (next ∷ rest) mode id null (in_dir name dirs)) bases
      (upserted_dirs_in_dir name next rest mode id null dirs) (λ first differ. upserted_dirs_in_other_dir name first next rest mode id null dirs differ)
      (directory_here name dirs bases (upserted_dirs (next ∷ rest) mode id null (in_dir name dirs) []) root.0 root.1 above all
      (ready_here name next rest dirs ready))
      (λ e h other. has_at_of_or_empty (dirs []) e (has_of_with_directory name null (or_empty (dirs [])) e other h))
      (everywhere_upserted (next ∷ rest) mode id (in_dir name dirs) (in_dir name bases) new (ready_below name next rest dirs ready)
      (λ q. above (name ∷ q))
      (λ q. all (name ∷ q))) all

  -- a directory that is ensured keeps the property
  ensured_list : (path : Path) (dirs : Dirs) → (es : List EntryView) × (ensured_dirs path null dirs [] ≡ Some es)
  ensured_list [] dirs = (or_empty (dirs []), refl)
  ensured_list (name ∷ rest) dirs = (with_directory name null (or_empty (dirs [])), refl)

  along_below : (name : List ℕ) (rest : Path) (dirs : Dirs) → IsOpenAlong (name ∷ rest) dirs → IsOpenAlong rest (in_dir name dirs)
  along_below name [] dirs along = tt
  along_below name (next ∷ rest) dirs (inl unopened) =
      inl ((λ e h called. absurd (subst (λ (o : Option (List EntryView)). HasAt o e) (unopened.1 []) h)), λ path. unopened.1 (next ∷ path))
  along_below name (next ∷ rest) dirs (inr opened) = opened.2

  along_here : (name : List ℕ) (rest : Path) (dirs : Dirs) → IsOpenAlong (name ∷ rest) dirs
      → (((e : EntryView) → HasAt (dirs []) e → e.name ≡ name → is_tree_mode e.mode ≡ false) × (dirs (name ∷ []) ≡ None))
      ⊎ ((es : List EntryView) × (dirs (name ∷ []) ≡ Some es))
  along_here name rest dirs (inl unopened) = inl (unopened.0, unopened.1 [])
  along_here name rest dirs (inr opened) = inr opened.1

  pub everywhere_ensured : (path : Path) (dirs bases : Dirs) → IsOpenAlong path dirs → AreAbove dirs → Everywhere P dirs bases
      → Everywhere P (ensured_dirs path null dirs) (edited_bases dirs (ensured_dirs path null dirs) bases)
  everywhere_ensured [] dirs bases along above all =
      by_level (ensured_dirs [] null dirs) (edited_bases dirs (ensured_dirs [] null dirs) bases)
      (λ e h. edited e (dirs (e.name ∷ [])) (bases (e.name ∷ [])) (all [] e (has_at_of_or_empty (dirs []) e h)))
      (λ first. all_edited (in_dir first dirs) (in_dir first bases) (λ q. all (first ∷ q)))
  everywhere_ensured (name ∷ rest) dirs bases along above all =
      let root = ensured_list rest (in_dir name dirs) in
      edited_in name dirs (ensured_dirs (name ∷ rest) null dirs) (ensured_dirs rest null (in_dir name dirs)) bases
      (ensured_dirs_in_dir name rest null dirs) (λ first differ. ensured_dirs_in_other_dir name first rest null dirs differ)
      (directory_here name dirs bases (ensured_dirs rest null (in_dir name dirs) []) root.0 root.1 above all (along_here name rest dirs along))
      (λ e h other. has_at_of_or_empty (dirs []) e (has_of_with_directory name null (or_empty (dirs [])) e other h))
      (everywhere_ensured rest (in_dir name dirs) (in_dir name bases) (along_below name rest dirs along) (λ q. above (name ∷ q))
      (λ q. all (name ∷ q))) all

  -- a removal keeps the property: an open directory that loses an entry is open, and one that isn't open isn't opened
  removed_here : (path : Path) (dirs : Dirs) (e : EntryView) (base : Option (List EntryView)) → P e (dirs []) base
      → P e (removed_dirs path dirs []) (base_edited (dirs []) (removed_dirs path dirs []) base)
  removed_here [] dirs e base p = edited e (dirs []) base p
  removed_here (name ∷ []) dirs e base p = taken (dirs []) p
    where
      taken : (o : Option (List EntryView)) → P e o base → P e (option_map (without name) o) (base_edited o (option_map (without name) o) base)
      taken None q = lasts.not_open e base q
      taken (Some es) q = lasts.still e es (without name es) base q
  removed_here (name ∷ next ∷ rest) dirs e base p = edited e (dirs []) base p

  taken_in : (name : List ℕ) (dirs : Dirs) → in_dir name (removed_dirs (name ∷ []) dirs) ≡ (λ _. None)
  taken_in name dirs = ap (λ b path. cond b None (dirs (name ∷ path))) (same_name_refl name)

  pub everywhere_removed : (path : Path) (dirs bases : Dirs) → Everywhere P dirs bases
      → Everywhere P (removed_dirs path dirs) (edited_bases dirs (removed_dirs path dirs) bases)
  everywhere_removed [] dirs bases all = all_edited dirs bases all
  everywhere_removed (name ∷ []) dirs bases all =
      edited_in name dirs (removed_dirs (name ∷ []) dirs) (λ _. None) bases (taken_in name dirs)
      (λ first differ. removed_name_in_other_dir name first dirs differ)
      (λ e h called. absurd ((has_at_of_without name (dirs []) e h).1 called)) (λ e h other. (has_at_of_without name (dirs []) e h).0)
      (nowhere (λ _. None) (edited_bases (in_dir name dirs) (λ _. None) (in_dir name bases)) (λ at. refl)) all
  everywhere_removed (name ∷ next ∷ rest) dirs bases all =
      edited_in name dirs (removed_dirs (name ∷ next ∷ rest) dirs) (removed_dirs (next ∷ rest) (in_dir name dirs)) bases
      (removed_dirs_in_dir name next rest dirs)
      (λ first differ. removed_dirs_in_other_dir name first next rest dirs differ)
      (λ e h called. removed_here (next ∷ rest) (in_dir name dirs) e (bases (name ∷ []))
      (subst (λ n. P e (dirs (n ∷ [])) (bases (n ∷ []))) called (all [] e h)))
      (λ e h other. h) (everywhere_removed (next ∷ rest) (in_dir name dirs) (in_dir name bases) (λ q. all (name ∷ q))) all

  -- a write keeps the property, if the written tree is open alone at its path
  replaced_here : (rest : Path) (written_tree : List EntryView) (dirs : Dirs) (e : EntryView) (base : Option (List EntryView)) → dirs rest ≢ None
      → P e (dirs []) base
      → P e (with_path rest (only_open written_tree) dirs []) (base_edited (dirs []) (with_path rest (only_open written_tree) dirs []) base)
  replaced_here [] written_tree dirs e base there p = let was = list_at_open_prefix (dirs []) there in
      stays_open e (dirs []) (Some written_tree) base was.0 written_tree was.1 refl p
  replaced_here (name ∷ rest) written_tree dirs e base there p = edited e (dirs []) base p

  pub everywhere_written : (prefix : Path) (written_tree : List EntryView) (dirs bases : Dirs) → dirs prefix ≢ None
      → ((e : EntryView) → ContainsEntry written_tree e → P e None None)
      → Everywhere P dirs bases
      → Everywhere P (with_path prefix (only_open written_tree) dirs) (edited_bases dirs (with_path prefix (only_open written_tree) dirs) bases)
  everywhere_written [] written_tree dirs bases there each all = by_level (only_open written_tree) (edited_bases dirs (only_open written_tree) bases)
      (λ e h. each e h)
      (λ first path e h. absurd h)
  everywhere_written (name ∷ rest) written_tree dirs bases there each all =
      let below : Dirs = with_path rest (only_open written_tree) (in_dir name dirs) in
      edited_in name dirs (with_path (name ∷ rest) (only_open written_tree) dirs) below bases (with_dir_in_dir name below dirs)
      (λ first differ. with_dir_in_other_dir name first below dirs differ)
      (λ e h called. replaced_here rest written_tree (in_dir name dirs) e (bases (name ∷ [])) there
      (subst (λ n. P e (dirs (n ∷ [])) (bases (n ∷ []))) called (all [] e h)))
      (λ e h other. h) (everywhere_written rest written_tree (in_dir name dirs) (in_dir name bases) there each (λ q. all (name ∷ q))) all
