-- The record of an edit follows from its effect on the open directories; the proofs of the editor's calls use it.
use Rattle.std.proofs.Common.{◌≡◌, ◌≢◌, ◌∙◌, inl, ℕ, Bool, true, List, [], ◌∷◌, ◌++◌, Option, Some, None, Result, Ok, Err, refl, sym, ap, subst}
use Rattle.std.proofs.lemmas.Cmp.{lists_total, nat_list_cmp_total}
use Rattle.std.proofs.lemmas.List.Elements.{All-nil, recursion_from_All}
use Rattle.std.specs.Prelude.{IfOk, OnOk}
use Rattle.std.specs.FinMap as map
use Rattle.std.specs.FinMap.{nat_cmp-IsAntisymmetric, slice_cmp-IsAntisymmetric}
use Rattle.std.specs.List.{AllByRecursion}
use Rattle.gixobj_tree_entries.specs.Entries.{EntryView}
use Rattle.gixobj_tree.specs.WellFormed.{IsEntryName}
use Rattle.gixobj_hash.specs.Hash.{null_id}
use Rattle.gixobj_hash.specs.declared.hash.kind.Kind.{Kind}
use Rattle.gixobj_hash.specs.declared.hash.object_id.ObjectId.{ObjectId}
use Rattle.gixobj_store.specs.Stores.{Objects, StoreModel}
use Rattle.gixobj_editor_files.specs.Edits.{IsNoTree, Opens, arrived, counted, upserted_dirs, raised}
use Rattle.gixobj_editor_files.specs.Files.{Path, SameFiles, Trees, Upserted}
use Rattle.gixobj_editor_files.specs.OpeningStops.{CountsEachLookup, StopsOpening, IsUnopenedAbove}
use Rattle.gixobj_editor_files.specs.Opening.{Dirs, IsOpened, OpenFiles}
use Rattle.gixobj_editor_files.specs.State.{DirMap, EditorFiles, State, open_bases, open_dirs}
use Rattle.gixobj_editor_files.specs.Unopened.{is_unopened, looked_up_entry, unopened_count}
use Rattle.gixobj_editor_files.proofs.EditedFiles.{same_files_refl, same_files_trans, upserted_congruent}
use Rattle.gixobj_editor_files.proofs.StoppedOpenings.{halted_at, opens_known}
use Rattle.gixobj_editor_files.proofs.OpeningFiles.{opens_keeps_files, opens_makes_ready}
use Rattle.gixobj_editor_files.proofs.StillOpened.{is_opened_upserted}
use Rattle.gixobj_editor_files.proofs.StillOpenedOpenings.{is_opened_of_opens, opens_keeps_open_lists}
use Rattle.gixobj_editor_files.proofs.UnopenedCounts.{IsIdle, requested_count}
use Rattle.gixobj_editor_files.proofs.UpsertedFiles.{IsReady, upserted_dirs_files}
use Rattle.gixobj_editor_open.specs.Paths.{AreNames}
use Rattle.gixobj_editor_open.specs.Nested.{Opened, base_side, bases_of, dirs_of, entries_side, side_list}
use Rattle.gixobj_editor_lookups.specs.Openings.{EndsBefore, IsOpenErrorAt}
use Rattle.gixobj_editor_open.proofs.BaseSteps.{editing as when_edited, base_none_where_unopened, opening as when_opened, unmoved}
use Rattle.gixobj_editor_lookups.specs.declared.opening.NotLookedUp.{NotLookedUp}
use Rattle.gixobj_editor_lookups.specs.declared.opening.NotLookedUp.TheVariants as not_looked_up
use Rattle.gixobj_editor_files.specs.Bases.{AreOpenedOn, base_edited, base_opened, edited_bases, opened_bases}
use Rattle.gixobj_editor_files.proofs.Calls.{opened_based, upserted_based}
use Rattle.gixobj_editor_lookups.specs.declared.opening.Error as directory
use Rattle.gixobj_editor_lookups.specs.declared.opening.Error.TheVariants as opening
use Rattle.gixobj_editor_lookups.specs.EditNames.{IsFirstNameError, directory_of}
use Rattle.gixobj_editor.specs.Upserts.{IsUpserted, IsUpsertError}
use Rattle.gixobj_editor_lookups.specs.FailedOpenings.{OpensInPart, IsLookupError, edit_error}
use Rattle.gixobj_editor.specs.FailedEdits.{IsAfterFailedEdit}
use Rattle.gixobj_editor_lookups.specs.declared.error.Error.{Error}
use Rattle.gixobj_editor_lookups.specs.declared.error.Error.TheVariants as error
use Rattle.gixobj_editor_lookups.proofs.InPart.{halted_in_part, none_in_part, opened_in_part}
use Rattle.gixobj_editor_lookups.proofs.ValidNames.{no_other_error}
use Rattle.gixobj_editor_lookups.proofs.Paths.{directory_of_snoc, prefix_extends}

-- the open directories of an editor
abbrev pub map_of : Opened → DirMap
map_of ds = map.from_entries (side_list entries_side ds)

abbrev pub map_dirs : Opened → Dirs
map_dirs ds = λ at. map.get (map_of ds) at

pub map_dirs_at : (ds : Opened) (at : Path) → map_dirs ds at ≡ dirs_of ds at
map_dirs_at ds at = map.get-from_entries (lists_total nat_list_cmp_total) (side_list entries_side ds) at

-- the bases of an editor's open directories
abbrev pub base_map : Opened → DirMap
base_map ds = map.from_entries (side_list base_side ds)

abbrev pub map_bases : Opened → Dirs
map_bases ds = λ at. map.get (base_map ds) at

pub map_bases_at : (ds : Opened) (at : Path) → map_bases ds at ≡ bases_of ds at
map_bases_at ds at = map.get-from_entries (lists_total nat_list_cmp_total) (side_list base_side ds) at

pub map_bases_eq : (ds : Opened) → map_bases ds ≡ bases_of ds
map_bases_eq ds = λ i at. map_bases_at ds at i

-- the bases after directories were opened, and after they were edited
abbrev pub OpenedSo : Opened → Opened → Type 0
OpenedSo ds mid = (at : Path) → bases_of mid at ≡ opened_bases (dirs_of ds) (dirs_of mid) (bases_of ds) at

abbrev pub EditedSo : Opened → Opened → Type 0
EditedSo mid ds' = (at : Path) → bases_of ds' at ≡ edited_bases (dirs_of mid) (dirs_of ds') (bases_of mid) at

pub opened_bases_of_map : (ds mid : Opened) → OpenedSo ds mid → (at : Path) → bases_of mid at ≡ opened_bases (map_dirs ds) (dirs_of mid) (map_bases ds) at
opened_bases_of_map ds mid first at =
    first at ∙ ap (λ o. base_opened o (dirs_of mid at) (bases_of ds at)) (sym (map_dirs_at ds at))
    ∙ ap (λ b. base_opened (map_dirs ds at) (dirs_of mid at) b)
    (sym (map_bases_at ds at))

pub edited_bases_of_map : (ds mid ds' : Opened) → OpenedSo ds mid → EditedSo mid ds' → (at : Path) → map_bases ds' at ≡ edited_bases (dirs_of mid)
    (map_dirs ds')
    (opened_bases (map_dirs ds) (dirs_of mid) (map_bases ds)) at
edited_bases_of_map ds mid ds' first then at =
    map_bases_at ds' at ∙ then at ∙ ap (λ b. base_edited (dirs_of mid at) (dirs_of ds' at) b) (opened_bases_of_map ds mid first at)
    ∙ ap (λ o. base_edited (dirs_of mid at) o (opened_bases (map_dirs ds) (dirs_of mid) (map_bases ds) at)) (sym (map_dirs_at ds' at))

pub only_opened_bases_of_map : (ds ds' : Opened) → OpenedSo ds ds' → (at : Path) → map_bases ds' at ≡ opened_bases (map_dirs ds) (map_dirs ds')
    (map_bases ds) at
only_opened_bases_of_map ds ds' first at = map_bases_at ds' at ∙ opened_bases_of_map ds ds' first at
    ∙ ap (λ o. base_opened (map_dirs ds at) o (map_bases ds at))
    (sym (map_dirs_at ds' at))

pub only_edited_bases_of_map : (ds ds' : Opened) → EditedSo ds ds' → (at : Path) → map_bases ds' at ≡ edited_bases (map_dirs ds) (map_dirs ds')
    (map_bases ds) at
only_edited_bases_of_map ds ds' then at =
    map_bases_at ds' at ∙ then at ∙ ap (λ o. base_edited o (dirs_of ds' at) (bases_of ds at)) (sym (map_dirs_at ds at))
    ∙ ap (λ o. base_edited (map_dirs ds at) o (bases_of ds at)) (sym (map_dirs_at ds' at)) ∙ ap (λ b. base_edited (map_dirs ds at) (map_dirs ds' at) b)
    (sym (map_bases_at ds at))

-- the bases of an unchanged editor, as after an opening and an edit that change nothing
map_bases_eq_edited_bases : (ds : Opened) (at : Path) → map_bases ds at ≡ edited_bases (map_dirs ds) (map_dirs ds)
    (opened_bases (map_dirs ds) (map_dirs ds) (map_bases ds)) at
map_bases_eq_edited_bases ds at =
    let none : map_dirs ds at ≡ None → map_bases ds at ≡ None = λ closed. map_bases_at ds at
    ∙ base_none_where_unopened ds at (sym (map_dirs_at ds at) ∙ closed) in
    let same = when_opened.same (map_dirs ds at) (map_bases ds at) none in
    same ∙ when_edited.same (map_dirs ds at) (base_opened (map_dirs ds at) (map_dirs ds at) (map_bases ds at)) (λ closed. sym same ∙ none closed)

pub edited_bases_idle : {S : Type 0} (store : S) (hash : Kind) (prefix : Path) (ds : Opened) (n : ℕ) (old : State S)
    → record { dirs = map_of ds; bases = base_map ds; store = store; lookups = n; object_hash = hash; prefix = prefix } ≡ old
    → (at : Path) → open_bases old at ≡ edited_bases (open_dirs old) (open_dirs old) (opened_bases (open_dirs old) (open_dirs old) (open_bases old))
    at
edited_bases_idle {S} store hash prefix ds n old view at =
    subst (λ (o : State S). open_bases o at ≡ edited_bases (open_dirs o) (open_dirs o) (opened_bases (open_dirs o) (open_dirs o) (open_bases o)) at)
    view
    (map_bases_eq_edited_bases ds at)

map_bases_eq_opened_bases : (ds : Opened) (at : Path) → map_bases ds at ≡ opened_bases (map_dirs ds) (map_dirs ds) (map_bases ds) at
map_bases_eq_opened_bases ds at = when_opened.same (map_dirs ds at) (map_bases ds at) (λ closed. map_bases_at ds at
    ∙ base_none_where_unopened ds at (sym (map_dirs_at ds at) ∙ closed))

pub opened_bases_unchanged : {S : Type 0} (store : S) (hash : Kind) (prefix : Path) (ds : Opened) (n : ℕ) (old : State S)
    → record { dirs = map_of ds; bases = base_map ds; store = store; lookups = n; object_hash = hash; prefix = prefix } ≡ old
    → (at : Path) → open_bases old at ≡ opened_bases (open_dirs old) (open_dirs old) (open_bases old) at
opened_bases_unchanged {S} store hash prefix ds n old view at =
    subst (λ (o : State S). open_bases o at ≡ opened_bases (open_dirs o) (open_dirs o) (open_bases o) at) view
    (map_bases_eq_opened_bases ds at)

-- an editor in which nothing is opened and nothing edited
pub opened_so_refl : (ds : Opened) → OpenedSo ds ds
opened_so_refl ds = unmoved base_opened when_opened ds

pub edited_so_refl : (ds : Opened) → EditedSo ds ds
edited_so_refl ds = unmoved base_edited when_edited ds

pub map_dirs_eq : (ds : Opened) → map_dirs ds ≡ dirs_of ds
map_dirs_eq ds = λ i at. map_dirs_at ds at i

pub map_is_opened : (ds : Opened) → IsOpened (dirs_of ds) → IsOpened (map_dirs ds)
map_is_opened ds all = subst (λ (d : Dirs). IsOpened d) (sym (map_dirs_eq ds)) all

-- the invariant of open directories and their bases
abbrev pub OpenedOn : Opened → Type 0
OpenedOn ds = AreOpenedOn (dirs_of ds) (bases_of ds)

pub map_is_opened_on : (ds : Opened) → OpenedOn ds → AreOpenedOn (map_dirs ds) (map_bases ds)
map_is_opened_on ds on = subst (λ (b : Dirs). AreOpenedOn (map_dirs ds) b) (sym (map_bases_eq ds))
    (subst (λ (d : Dirs). AreOpenedOn d (bases_of ds)) (sym (map_dirs_eq ds)) on)

pub is_opened_of_editor : {S : Type 0} (store : S) (hash : Kind) (prefix : Path) (ds : Opened) (n : ℕ) (old : State S)
    → record { dirs = map_of ds; bases = base_map ds; store = store; lookups = n; object_hash = hash; prefix = prefix } ≡ old → IsOpened (dirs_of ds)
    → IsOpened (open_dirs old)
is_opened_of_editor {S} store hash prefix ds n old view all = subst (λ (o : State S). IsOpened (open_dirs o)) view (map_is_opened ds all)

pub is_opened_after_upsert : (path : Path) (mode : ℕ) (id null : ObjectId) (mid ds : Opened) → AllByRecursion IsEntryName path → IsOpened (dirs_of mid)
    → ((at : Path) → dirs_of ds at ≡ upserted_dirs path mode id null (dirs_of mid) at) → IsOpened (dirs_of ds)
is_opened_after_upsert path mode id null mid ds names all insert_entry = subst (λ (d : Dirs). IsOpened d) (sym (λ i at. insert_entry at i))
    (is_opened_upserted path mode id null (dirs_of mid) names all)

-- the opening of an upsert ends only before an entry that isn't a tree, which isn't looked up
pub no_tree_is_idle : IsIdle IsNoTree
no_tree_is_idle e other = inl other

-- no directory is above the root
pub no_error_above : (trees : Trees) (dirs : Dirs) (it : ObjectId) → IsUnopenedAbove trees dirs [] it → ⊥
no_error_above trees dirs it h = longer h.parent (h.above.2) (h.above.3) (h.above.5)
  where
    longer : (parent : Path) (next : List ℕ) (rest : Path) → [] ≡ parent ++ next ∷ rest → ⊥
    longer [] next rest is = cc is
    longer (name ∷ parent) next rest is = cc is

pub tree_known_above : {StopsBefore : EntryView → Type 0} → IsIdle StopsBefore → (trees : Trees) (path head : Path) (last : List ℕ) → path ≡ head ++ last ∷ []
    → (old new : Dirs) (queries : List ObjectId) → Opens StopsBefore trees head old new queries → (it : ObjectId) → IsUnopenedAbove trees old path it
    → (entries : List EntryView) × (trees it ≡ Some entries)
tree_known_above idle trees path head last is old new queries opens it h =
    let at = h.above in
    let begins = prefix_extends head last h.parent at.2 at.3 (sym is ∙ at.5) in
    let found = opens_known trees idle head old new queries opens at.0 at.1 begins.0 (begins.1 ∙ ap (λ p. p ++ begins.0) at.4)
    (subst (λ p. is_unopened trees old p ≡ true) at.4 h.unopened) h.entry (subst (λ p. looked_up_entry trees p old ≡ Some h.entry) at.4 h.yielded) in
    (found.0, ap trees (sym h.named) ∙ found.1)

-- an upsert at an empty path changes nothing
pub is_upserted_unchanged : {S : Type 0} (trees : Trees) (old : State S) (path : Path) → path ≡ [] → (mode : ℕ) (id : ObjectId) → IsOpened (open_dirs old)
    → ((at : Path) → open_bases old at ≡ edited_bases (open_dirs old) (open_dirs old) (opened_bases (open_dirs old) (open_dirs old) (open_bases old))
    at)
    → IsUpserted trees old path mode id old
is_upserted_unchanged {S} trees old path none mode id all idle = subst (λ p. IsUpserted trees old p mode id old) (sym none) nothing
  where
    nothing : IsUpserted trees old [] mode id old
    nothing = record {
      names = All-nil IsEntryName;
      opened = open_dirs old;
      looked_up = [];
      opens = arrived (open_dirs old);
      dirs = λ at. refl;
      bases = idle;
      lookups = refl;
      rest = refl;
      is_opened = all;
      known = λ it h. absurd (no_error_above trees (open_dirs old) it h);
      files = λ T k agrees. same_files_refl (EditorFiles T k old);
      has_bases = λ T agrees has. has;
    }

-- an editor of these parts
abbrev pub state_of : {S : Type 0} → S → Kind → Path → Opened → ℕ → State S
state_of store hash prefix ds n = record { dirs = map_of ds; bases = base_map ds; store = store; lookups = n; object_hash = hash; prefix = prefix }

-- an editor with equal open directories and an equal number of lookups is the same
pub same_state : {S : Type 0} (store : S) (hash : Kind) (prefix : Path) (ds mid : Opened) (n m : ℕ) (old : State S) → state_of store hash prefix ds n ≡ old
    → dirs_of mid ≡ dirs_of ds → OpenedSo ds mid → m ≡ n → state_of store hash prefix mid m ≡ old
same_state {S} store hash prefix ds mid n m old view same first count =
    let paths = slice_cmp-IsAntisymmetric (slice_cmp-IsAntisymmetric nat_cmp-IsAntisymmetric) in
    let dirs : map_of mid ≡ map_of ds = map.same_map (lists_total nat_list_cmp_total) paths (map_of mid) (map_of ds)
    (λ at. map_dirs_at mid at ∙ ap (λ (d : Dirs). d at) same ∙ sym (map_dirs_at ds at)) in
    let bases : base_map mid ≡ base_map ds = map.same_map (lists_total nat_list_cmp_total) paths (base_map mid) (base_map ds)
    (λ at. map_bases_at mid at ∙ first at ∙ ap (λ (d : Dirs). base_opened (dirs_of ds at) (d at) (bases_of ds at)) same
    ∙ sym (opened_so_refl ds at) ∙ sym (map_bases_at ds at)) in
    let is : state_of store hash prefix mid m ≡ state_of store hash prefix ds n =
    λ i. record { dirs = dirs i; bases = bases i; store = store; lookups = count i; object_hash = hash; prefix = prefix } in
    is ∙ view

module _ {S : Type 0} (store : S) (hash : Kind) (prefix : Path) (trees : Trees) where
  abbrev made : Opened → ℕ → State S
  made ds n = state_of store hash prefix ds n

  -- an inserted entry
  inserted_in : (ds mid ds' : Opened) (n m : ℕ) (path head : Path) (last : List ℕ) (mode : ℕ) (id : ObjectId) (queries : List ObjectId)
      → path ≡ head ++ last ∷ [] → AreNames path → Opens IsNoTree trees head (dirs_of ds) (dirs_of mid) queries
      → ((at : Path) → dirs_of ds' at ≡ upserted_dirs path mode id (null_id hash) (dirs_of mid) at) → m ≡ counted n queries → OpenedOn ds
      → OpenedSo ds mid
      → EditedSo mid ds' → IsUpserted trees (made ds n) path mode id (made ds' m)
  inserted_in ds mid ds' n m path head last mode id queries is names opens insert_entry count was first then =
      let old_is = map_dirs_eq ds in
      let opened : Opens IsNoTree trees head (map_dirs ds) (dirs_of mid) queries =
      subst (λ (d : Dirs). Opens IsNoTree trees head d (dirs_of mid) queries)
      (sym old_is) opens in
      let new_is : map_dirs ds' ≡ upserted_dirs path mode id (null_id hash) (dirs_of mid) = λ i at. (map_dirs_at ds' at ∙ insert_entry at) i in
      let ready : IsReady path (dirs_of mid) = subst (λ p. IsReady p (dirs_of mid)) (sym is)
      (opens_makes_ready trees head last (map_dirs ds) (dirs_of mid) queries opened) in
      record {
        names = names;
        opened = dirs_of mid;
        looked_up = queries;
        opens = subst (λ p. Opens IsNoTree trees p (map_dirs ds) (dirs_of mid) queries) (sym (ap directory_of is ∙ directory_of_snoc head last)) opened;
        dirs = λ at. map_dirs_at ds' at ∙ insert_entry at;
        bases = edited_bases_of_map ds mid ds' first then;
        lookups = count ∙ ap (raised n) (requested_count trees no_tree_is_idle head last (map_dirs ds) (dirs_of mid) queries opened
            ∙ ap (unopened_count trees (map_dirs ds)) (sym is));
        rest = refl;
        is_opened = map_is_opened ds' (is_opened_after_upsert path mode id (null_id hash) mid ds' (recursion_from_All IsEntryName path names)
            (is_opened_of_opens trees head (dirs_of ds) (dirs_of mid) queries opens was.opened) insert_entry);
        known = tree_known_above no_tree_is_idle trees path head last is (map_dirs ds) (dirs_of mid) queries opened;
        files = λ T k agrees. subst (λ (d : Dirs). SameFiles (OpenFiles T k d) (Upserted T k path mode id (OpenFiles T k (map_dirs ds)))) (sym new_is)
            (same_files_trans _ _ _ (upserted_dirs_files T k path mode id (null_id hash) (dirs_of mid) ready)
            (upserted_congruent T k path mode id (OpenFiles T k (dirs_of mid)) (OpenFiles T k (map_dirs ds))
            (opens_keeps_files T trees agrees head (map_dirs ds) (dirs_of mid) queries opened k)));
        has_bases = λ T agrees has. upserted_based T trees hash (map_dirs ds) (map_bases ds) (map_dirs ds') (map_bases ds')
            (map_is_opened_on ds was) agrees has head last mode id (dirs_of mid) queries opened
            (λ at. map_dirs_at ds' at ∙ insert_entry at ∙ ap (λ p. upserted_dirs p mode id (null_id hash) (dirs_of mid) at) is)
            (edited_bases_of_map ds mid ds' first then);
      }

  pub upserted_at : (ds mid ds' : Opened) (n m : ℕ) (old : State S) → made ds n ≡ old → (path head : Path) (last : List ℕ) (mode : ℕ) (id : ObjectId)
      (queries : List ObjectId) → path ≡ head ++ last ∷ [] → AreNames path → Opens IsNoTree trees head (dirs_of ds) (dirs_of mid) queries
      → ((at : Path) → dirs_of ds' at ≡ upserted_dirs path mode id (null_id hash) (dirs_of mid) at) → m ≡ counted n queries → OpenedOn ds
      → OpenedSo ds mid
      → EditedSo mid ds' → IsUpserted trees old path mode id (made ds' m)
  upserted_at ds mid ds' n m old view path head last mode id queries is names opens insert_entry count was first then =
      subst (λ (o : State S). IsUpserted trees o path mode id (made ds' m)) view
      (inserted_in ds mid ds' n m path head last mode id queries is names opens insert_entry count was first then)

  -- directories are opened, and nothing else changes
  abbrev InPart : StoreModel S → NotLookedUp → Opened → Opened → ℕ → ℕ → Path → Error → Type 0
  InPart model it ds ds' n m path failure =
      OpensInPart (EndsBefore it) (model.objects store) (model.may_fail store) trees path (dirs_of ds) (dirs_of ds') n m failure

  -- the directories that an editor shows are opened in part, as those of the list are
  abbrev map_in_part : (model : StoreModel S) (it : NotLookedUp) (ds ds' : Opened) (n m : ℕ) (path : Path) (failure : Error)
      → InPart model it ds ds' n m path failure
      → OpensInPart (EndsBefore it) (model.objects store) (model.may_fail store) trees path (map_dirs ds) (map_dirs ds') n m failure
  map_in_part model it ds ds' n m path failure so =
      subst (λ (d : Dirs). OpensInPart (EndsBefore it) (model.objects store) (model.may_fail store) trees path d (map_dirs ds') n m failure)
      (sym (map_dirs_eq ds))
      (subst (λ (d : Dirs). OpensInPart (EndsBefore it) (model.objects store) (model.may_fail store) trees path (dirs_of ds) d n m failure)
      (sym (map_dirs_eq ds')) so)

  pub stay : (model : StoreModel S) (it : NotLookedUp) (ds ds' : Opened) (n m : ℕ) (path : Path) (failure : Error) → InPart model it ds ds' n m path failure
      → OpenedOn ds
      → OpenedSo ds ds' → IsAfterFailedEdit model trees (made ds n) path failure (made ds' m)
  stay model it ds ds' n m path failure so was first =
      let part = map_in_part model it ds ds' n m path failure so in
      record {
        not_looked_up = it;
        opening = part;
        bases = only_opened_bases_of_map ds ds' first;
        stays = opens_keeps_open_lists trees part.reached (map_dirs ds) (map_dirs ds') part.looked_up part.opens;
        rest = refl;
        is_opened = map_is_opened ds' (is_opened_of_opens trees so.reached (dirs_of ds) (dirs_of ds') so.looked_up so.opens was.opened);
        files = λ T k agrees. opens_keeps_files T trees agrees part.reached (map_dirs ds) (map_dirs ds') part.looked_up part.opens k;
        has_bases = λ T agrees has. opened_based T trees hash (map_dirs ds) (map_bases ds) (map_dirs ds') (map_bases ds')
            (map_is_opened_on ds was) agrees has part.reached part.looked_up part.opens (only_opened_bases_of_map ds ds' first);
      }

  pub stay_at : (model : StoreModel S) (it : NotLookedUp) (ds ds' : Opened) (n m : ℕ) (old : State S) → made ds n ≡ old → (path : Path) (failure : Error)
      → InPart model it ds ds' n m path failure → OpenedOn ds → OpenedSo ds ds' → IsAfterFailedEdit model trees old path failure (made ds' m)
  stay_at model it ds ds' n m old view path failure so was first = subst (λ (o : State S). IsAfterFailedEdit model trees o path failure (made ds' m)) view
      (stay model it ds ds' n m path failure so was first)

  pub unchanged_at : (model : StoreModel S) (ds : Opened) (n : ℕ) (old : State S) → made ds n ≡ old → (path : Path) (failure : Error)
      → (¬ IsLookupError failure)
      → OpenedOn ds → IsAfterFailedEdit model trees old path failure old
  unchanged_at model ds n old view path failure other was = subst (λ (o : State S). IsAfterFailedEdit model trees o path failure o) view
      (stay model not_looked_up.Opened ds ds n n path failure
      (none_in_part (model.objects store) (model.may_fail store) trees path (dirs_of ds) n failure other) was (opened_so_refl ds))

  pub halted_so : (model : StoreModel S) (ds ds' : Opened) (n m : ℕ) (old : State S) → made ds n ≡ old → (path head : Path) (last : List ℕ)
      → path ≡ head ++ last ∷ []
      → (queries : List ObjectId) (failed_lookup : Option ObjectId) → StopsOpening IsNoTree trees head (dirs_of ds) (dirs_of ds') queries failed_lookup
      → m ≡ counted n queries → (why : directory.Error) → IsOpenErrorAt (model.objects store) (model.may_fail store) failed_lookup why
      → OpenedOn ds → OpenedSo ds ds' → IsAfterFailedEdit model trees old path (edit_error why) (made ds' m)
  halted_so model ds ds' n m old view path head last is queries failed_lookup halts count why at =
      stay_at model not_looked_up.Opened ds ds' n m old view path (edit_error why)
      (halted_in_part (model.objects store) (model.may_fail store) trees path head last [] is (dirs_of ds) (dirs_of ds') queries failed_lookup halts n m
      count why at)

  pub opened_so : (model : StoreModel S) (it : NotLookedUp) (ds ds' : Opened) (n m : ℕ) (old : State S) → made ds n ≡ old → (path head : Path) (last : List ℕ)
      → path ≡ head ++ last ∷ []
      → (queries : List ObjectId) → Opens (EndsBefore it) trees head (dirs_of ds) (dirs_of ds') queries → m ≡ counted n queries
      → (failure : Error) → (¬ IsLookupError failure)
      → OpenedOn ds → OpenedSo ds ds' → IsAfterFailedEdit model trees old path failure (made ds' m)
  opened_so model it ds ds' n m old view path head last is queries opens count failure other =
      stay_at model it ds ds' n m old view path failure
      (opened_in_part (model.objects store) (model.may_fail store) trees path head last [] is (dirs_of ds) (dirs_of ds') queries opens n m count failure other)

  -- each lookup is counted
  pub counted_at : {StopsBefore : EntryView → Type 0} (ds ds' : Opened) (n m : ℕ) (old : State S) → made ds n ≡ old → (path : Path)
      → CountsEachLookup StopsBefore trees path (dirs_of ds) (dirs_of ds') n m
      → CountsEachLookup StopsBefore trees path (open_dirs old) (map_dirs ds') old.lookups m
  counted_at {StopsBefore} ds ds' n m old view path so =
      subst (λ (o : State S). CountsEachLookup StopsBefore trees path (open_dirs o) (map_dirs ds') o.lookups m) view
      (subst (λ (d : Dirs). CountsEachLookup StopsBefore trees path d (map_dirs ds') n m) (sym (map_dirs_eq ds))
      (subst (λ (d : Dirs). CountsEachLookup StopsBefore trees path (dirs_of ds) d n m) (sym (map_dirs_eq ds')) so))

  -- the error of an opening that halts
  some_name : (head : Path) (last : List ℕ) → head ++ last ∷ [] ≢ []
  some_name [] last = λ is. cc is
  some_name (name ∷ head) last = λ is. cc is

  pub some_path : (path head : Path) (last : List ℕ) → path ≡ head ++ last ∷ [] → path ≢ []
  some_path path head last is = λ none. some_name head last (sym is ∙ none)

  pub fails : (objects : Objects) (may_fail : ObjectId → Bool) (ds ds' : Opened) (n : ℕ) (old : State S) → made ds n ≡ old
      → (path head : Path) (last : List ℕ) → path ≡ head ++ last ∷ [] → AreNames path → (queries : List ObjectId) (failed_lookup : Option ObjectId)
      → StopsOpening IsNoTree trees head (dirs_of ds) (dirs_of ds') queries failed_lookup → (cause : directory.Error)
      → IsOpenErrorAt objects may_fail failed_lookup cause
      → IsUpsertError objects may_fail trees (open_dirs old) path (edit_error cause)
  fails objects may_fail ds ds' n old view path head last is names queries failed_lookup halts cause at =
      subst (λ (o : State S). IsUpsertError objects may_fail trees (open_dirs o) path (edit_error cause)) view
      (subst (λ (d : Dirs). IsUpsertError objects may_fail trees d path (edit_error cause)) (sym (map_dirs_eq ds)) (by_cause cause failed_lookup halts at))
    where
      above : (v : Option ObjectId) → StopsOpening IsNoTree trees head (dirs_of ds) (dirs_of ds') queries v → (it : ObjectId) → v ≡ Some it
          → IsUnopenedAbove trees (dirs_of ds) path it
      above v h it some = subst (λ p. IsUnopenedAbove trees (dirs_of ds) p it) (sym is)
          (halted_at trees head last [] (dirs_of ds) (dirs_of ds') queries v h it some).0

      by_cause : (why : directory.Error) (v : Option ObjectId) → StopsOpening IsNoTree trees head (dirs_of ds) (dirs_of ds') queries v
          → IsOpenErrorAt objects may_fail v why → IsUpsertError objects may_fail trees (dirs_of ds) path (edit_error why)
      by_cause opening.OutOfMemory v h r = (names, some_path path head last is)
      by_cause opening.MalformedTree None h r = absurd (cc r)
      by_cause opening.MalformedTree (Some it) h r = (names, (it, above (Some it) h it refl, r))
      by_cause (opening.FindExistingObject why) None h r = absurd (cc r)
      by_cause (opening.FindExistingObject why) (Some it) h r = (names, (it, above (Some it) h it refl, r))

-- two clauses of a successful result hold together
pub if_ok_and : {X E : Type 0} (r : Result X E) (P : X → Type 0) (Q : Type 0) (R : X → Type 0) → IfOk r P → OnOk r Q → ((x : X) → P x → Q → R x)
    → IfOk r R
if_ok_and (Ok x) P Q R h k f = f x h k
if_ok_and (Err error) P Q R h k f = tt
