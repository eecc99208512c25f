-- The tree that a write emits for a directory has the files of the open directories: for `CursorFiles` and the editor's
-- writes.
use Rattle.std.proofs.Common.{◌≡◌, ◌⊎◌, inl, inr, ⊎_elim, ℕ, zero, suc, true, false, cond, List, [], ◌∷◌, ◌++◌, refl, sym, ap, subst, ◌∙◌, Option, Some, None}
use Rattle.std.specs.Prelude.{MatchOption}
use Rattle.std.specs.List.{AllByRecursion}
use Rattle.gixobj_tree_entries.specs.Entries.{EntryView, Pair}
use Rattle.gixobj_tree_entries.specs.Mode.{is_tree_mode}
use Rattle.gixobj_hash.specs.declared.hash.object_id.ObjectId.{ObjectId}
use Rattle.gixobj_editor_files.specs.Files.{Below, Files, ContainsEntry, Path, SameFiles, Table, is_null, resolves_to}
use Rattle.gixobj_editor_files.proofs.Based.{Based}
use Rattle.gixobj_editor_files.proofs.Everywhere.{Everywhere}
use Rattle.gixobj_editor_files.specs.Emission.{EmitsBelow, EmitsEntries, left_out_if_empty, end, entry_unless_null, of_entries, unopened, unchanged, written}
use Rattle.gixobj_editor_files.specs.Opening.{Dirs, HasAt, IsOpened, OpenFiles, in_dir}
use Rattle.gixobj_editor_files.proofs.OpenedFiles.{IsAt, no_open_files_of_no_entries}
use Rattle.gixobj_editor_files.proofs.Canonical.{entry_of_name_unique}

-- the entries of open directories are of tree mode
abbrev pub AreTrees : Dirs → Type 0
AreTrees dirs = (path : Path) (e : EntryView) (es : List EntryView) → HasAt (dirs path) e → dirs (path ++ e.name ∷ []) ≡ Some es → is_tree_mode e.mode ≡ true

abbrev pub Known : Table → List Pair → Type 0
Known T pairs = AllByRecursion (λ pair. T.tree_at pair.0 ≡ Some pair.1) pairs

-- a table that has pairs has a prefix of them, and the rest
pub known_append_left : (T : Table) (xs ys : List Pair) → Known T (xs ++ ys) → Known T xs
known_append_left T [] ys h = tt
known_append_left T (x ∷ xs) ys h = (h.0, known_append_left T xs ys h.1)

pub known_append_right : (T : Table) (xs ys : List Pair) → Known T (xs ++ ys) → Known T ys
known_append_right T [] ys h = h
known_append_right T (x ∷ xs) ys h = known_append_right T xs ys h.1

-- the files at a name of some entries
abbrev Part : Table → ℕ → Dirs → List EntryView → List ℕ → Path → ℕ → ObjectId → Type 0
Part T k dirs es name path mode id =
    (e : EntryView) × ContainsEntry es e × (e.name ≡ name) × MatchOption (dirs (name ∷ [])) (Below T (Files T k) e.mode e.id path mode id)
    (λ _. OpenFiles T k (in_dir name dirs) path mode id)

-- the entries of a list that begins with a kept entry are that entry and the others
pub has_non_null_cons : (e : EntryView) (id : ObjectId) (os : List EntryView) (x : EntryView) → ContainsEntry (entry_unless_null e id ++ os) x
    → ((is_null id ≡ false) × (record { mode = e.mode; name = e.name; id = id } ≡ x)) ⊎ ContainsEntry os x
has_non_null_cons e id os x h =
    elim (is_null id) as (λ b. is_null id ≡ b → ContainsEntry (cond b [] ((record { mode = e.mode; name = e.name; id = id }) ∷ []) ++ os) x
    → ((is_null id ≡ false) × (record { mode = e.mode; name = e.name; id = id } ≡ x)) ⊎ ContainsEntry os x) [
      | true ↦ λ is k. inr k
      | false ↦ λ is k. ⊎_elim (λ same. inl (is, same)) inr k
    ] refl h

contains_entry_unless_null_head : (e : EntryView) (id : ObjectId) (os : List EntryView) → is_null id ≡ false
    → ContainsEntry (entry_unless_null e id ++ os) (record { mode = e.mode; name = e.name; id = id })
contains_entry_unless_null_head e id os is = rw is (inl refl)

contains_entry_unless_null_tail : (e : EntryView) (id : ObjectId) (os : List EntryView) (x : EntryView) → ContainsEntry os x
    → ContainsEntry (entry_unless_null e id ++ os) x
contains_entry_unless_null_tail e id os x h = elim (is_null id) as (λ b. ContainsEntry
    (cond b [] ((record { mode = e.mode; name = e.name; id = id }) ∷ []) ++ os) x)
    [ true ↦ h | false ↦ inr h ]

known_id_not_null : (T : Table) (id : ObjectId) (es : List EntryView) → T.tree_at id ≡ Some es → is_null id ≡ false
known_id_not_null T id es known = elim (is_null id) as (λ b. is_null id ≡ b → b ≡ false)
    [ true ↦ λ is. absurd (let none : Some es ≡ None = sym known ∙ T.nothing_by_null id is in cc none) | false ↦ λ is. refl ] refl

open_files_of_match_option : (T : Table) (k : ℕ) (dirs : Dirs) (name : List ℕ) (es : List EntryView) (e : EntryView) (path : Path) (mode : ℕ) (id : ObjectId)
    → dirs (name ∷ []) ≡ Some es → MatchOption (dirs (name ∷ [])) (Below T (Files T k) e.mode e.id path mode id)
    (λ _. OpenFiles T k (in_dir name dirs) path mode id) → OpenFiles T k (in_dir name dirs) path mode id
open_files_of_match_option T k dirs name es e path mode id is h =
    subst (λ o. MatchOption o (Below T (Files T k) e.mode e.id path mode id) (λ _. OpenFiles T k (in_dir name dirs) path mode id)) is h

match_option_of_open_files : (T : Table) (k : ℕ) (dirs : Dirs) (name : List ℕ) (es : List EntryView) (e : EntryView) (path : Path) (mode : ℕ) (id : ObjectId)
    → dirs (name ∷ []) ≡ Some es → OpenFiles T k (in_dir name dirs) path mode id → MatchOption (dirs (name ∷ [])) (Below T (Files T k) e.mode e.id path mode id)
    (λ _. OpenFiles T k (in_dir name dirs) path mode id)
match_option_of_open_files T k dirs name es e path mode id is h =
    subst (λ o. MatchOption o (Below T (Files T k) e.mode e.id path mode id) (λ _. OpenFiles T k (in_dir name dirs) path mode id)) (sym is) h

emits_below_root_open : (dirs bases : Dirs) (ps : List Pair) (written_tree : List EntryView) (saved : ℕ) → EmitsBelow dirs bases ps written_tree saved
    → (es : List EntryView)
    × (dirs [] ≡ Some es)
emits_below_root_open dirs bases ps written_tree saved (of_entries d b es below os n is walk) = (es, is)

part_cons : (T : Table) (k : ℕ) (dirs : Dirs) (e : EntryView) (es : List EntryView) (name : List ℕ) (path : Path) (mode : ℕ) (id : ObjectId)
    → Part T k dirs es name path mode id → Part T k dirs (e ∷ es) name path mode id
part_cons T k dirs e es name path mode id p = (p.0, inr p.1, p.2, p.3)

-- a directory that is or was emitted by an id: its entry has that id, by which the table has its written tree
emitted_files_cons : (T : Table) (k : ℕ) (d : Dirs) (e : EntryView) (rest os l root : List EntryView) (named_id : ObjectId) → T.tree_at named_id ≡ Some l
    → is_tree_mode e.mode ≡ true → d (e.name ∷ []) ≡ Some root
    → (name : List ℕ) (path : Path) (mode : ℕ) (id : ObjectId)
    → (Files T k l path mode id → OpenFiles T k (in_dir e.name d) path mode id) × (OpenFiles T k (in_dir e.name d) path mode id → Files T k l path mode id)
    → (Files T (suc k) os (name ∷ path) mode id → Part T k d rest name path mode id)
    × (Part T k d rest name path mode id → Files T (suc k) os (name ∷ path) mode id)
    → (Files T (suc k) (entry_unless_null e named_id ++ os) (name ∷ path) mode id → Part T k d (e ∷ rest) name path mode id)
    × (Part T k d (e ∷ rest) name path mode id → Files T (suc k) (entry_unless_null e named_id ++ os) (name ∷ path) mode id)
emitted_files_cons T k d e rest os l root named_id known tree there name path mode id lower w =
    let filled = known_id_not_null T named_id l known in
    let new : EntryView = record { mode = e.mode; name = e.name; id = named_id } in
    let is_at : resolves_to T e.mode named_id ≡ Some l = rw tree known in
    let At : Option (List EntryView) → Type 0 = λ o. MatchOption o ((path ≡ []) × (mode ≡ e.mode) × (id ≡ named_id)) (λ l. Files T k l path mode id) in (
      (λ h. ⊎_elim (λ one. let named : e.name ≡ name = ap (λ (x : EntryView). x.name) one.1 ∙ h.2 in
          let mine = subst (λ (x : EntryView). Below T (Files T k) x.mode x.id path mode id) (sym one.1) h.3 in (
            e,
            inl refl,
            named,
            match_option_of_open_files T k d name root e path mode id (subst (λ n. d (n ∷ []) ≡ Some root) named there)
                (subst (λ n. OpenFiles T k (in_dir n d) path mode id) named (lower.0 (subst At is_at mine.1))),
          ))
          (λ l. part_cons T k d e rest name path mode id (w.0 (h.0, l, h.2, h.3))) (has_non_null_cons e named_id os h.0 h.1)),
      λ p. ⊎_elim (λ same. let named : e.name ≡ name = ap (λ (x : EntryView). x.name) same ∙ p.2 in
          let files = lower.1 (subst (λ n. OpenFiles T k (in_dir n d) path mode id) (sym named)
          (open_files_of_match_option T k d name root p.0 path mode id (subst (λ n. d (n ∷ []) ≡ Some root) named there) p.3)) in
          (new, contains_entry_unless_null_head e named_id os filled, named, (filled, subst At (sym is_at) files)))
          (λ l. let f = w.1 (p.0, l, p.2, p.3) in (f.0, contains_entry_unless_null_tail e named_id os f.0 f.1, f.2, f.3)) p.1,
    )

-- if an id names a tree that isn't empty, the table has the tree by it
tree_at_of_is_at_cons : (T : Table) (id : ObjectId) (first : EntryView) (rest : List EntryView) → IsAt T id (first ∷ rest) → T.tree_at id ≡ Some (first ∷ rest)
tree_at_of_is_at_cons T id first rest (inl none) = absurd (cc none.1)
tree_at_of_is_at_cons T id first rest (inr known) = known

mutual
  pub emits_below_files : (T : Table) (dirs bases : Dirs) (ps : List Pair) (written_tree : List EntryView) (saved : ℕ)
      → EmitsBelow dirs bases ps written_tree saved
      → AreTrees dirs
      → Everywhere (Based T) dirs bases → Known T ps → (n : ℕ) → SameFiles (Files T n written_tree) (OpenFiles T n dirs)
  emits_below_files T dirs bases ps written_tree saved (of_entries d b es below os n is walk) trees based known zero path mode id =
      ((λ h. absurd h), λ h. absurd h)
  emits_below_files T dirs bases ps written_tree saved (of_entries d b es below os n is walk) trees based known (suc k) [] mode id =
      ((λ h. absurd h), λ h. absurd h)
  emits_below_files T dirs bases ps written_tree saved (of_entries d b es below os n is walk) trees based known (suc k) (name ∷ path) mode id =
      let w = walk_files T d b es below os n walk (λ e l h there. trees [] e l (subst (λ o. HasAt o e) (sym is) h) there) (λ first q. trees (first ∷ q))
      (λ e l h there. based [] e (subst (λ o. HasAt o e) (sym is) h) l there) (λ first q. based (first ∷ q)) known k name path mode id in (
        (λ h. let p = w.0 h in (p.0, subst (λ o. HasAt o p.0) (sym is) p.1, p.2, p.3)),
        λ h. w.1 (h.0, subst (λ o. HasAt o h.0) is h.1, h.2, h.3),
      )

  walk_files : (T : Table) (dirs bases : Dirs) (es : List EntryView) (ps : List Pair) (written_tree : List EntryView) (saved : ℕ)
      → EmitsEntries dirs bases es ps written_tree saved
      → ((e : EntryView) (l : List EntryView) → ContainsEntry es e → dirs (e.name ∷ []) ≡ Some l → is_tree_mode e.mode ≡ true)
      → ((first : List ℕ) → AreTrees (in_dir first dirs))
      → ((e : EntryView) (l : List EntryView) → ContainsEntry es e → bases (e.name ∷ []) ≡ Some l → IsAt T e.id l)
      → ((first : List ℕ) → Everywhere (Based T) (in_dir first dirs) (in_dir first bases))
      → Known T ps → (k : ℕ) (name : List ℕ) (path : Path) (mode : ℕ) (id : ObjectId)
      → (Files T (suc k) written_tree (name ∷ path) mode id → Part T k dirs es name path mode id)
      × (Part T k dirs es name path mode id → Files T (suc k) written_tree (name ∷ path) mode id)
  walk_files T dirs bases es ps written_tree saved (end d b) trees deeper based basing known k name path mode id = ((λ h. absurd h.1), λ h. absurd h.1)
  walk_files T dirs bases es ps written_tree saved (unopened d b e rest below os n none walk) trees deeper based basing known k name path mode id =
      let w = walk_files T d b rest below os n walk (λ x l h. trees x l (inr h)) deeper (λ x l h. based x l (inr h)) basing known k name path mode id in
      let At : EntryView → Option (List EntryView) → Type 0 = λ x o. MatchOption o (Below T (Files T k) x.mode x.id path mode id)
      (λ _. OpenFiles T k (in_dir name d) path mode id) in (
        (λ h. ⊎_elim (λ one. (
          e,
          inl refl,
          ap (λ (x : EntryView). x.name) one.1
              ∙ h.2,
          subst (At e) (sym (subst (λ n. d (n ∷ []) ≡ None) (ap (λ (x : EntryView). x.name) one.1 ∙ h.2) none))
              (subst (λ (x : EntryView). Below T (Files T k) x.mode x.id path mode id) (sym one.1) h.3),
        ))
            (λ l. part_cons T k d e rest name path mode id (w.0 (h.0, l, h.2, h.3))) (has_non_null_cons e e.id os h.0 h.1)),
        λ p. ⊎_elim (λ same. let named : e.name ≡ name = ap (λ (x : EntryView). x.name) same ∙ p.2 in
            let here = subst (At p.0) (subst (λ n. d (n ∷ []) ≡ None) named none) p.3 in
            let mine = subst (λ (x : EntryView). Below T (Files T k) x.mode x.id path mode id) (sym same) here in
            (e, contains_entry_unless_null_head e e.id os mine.0, named, mine))
            (λ l. let f = w.1 (p.0, l, p.2, p.3) in (f.0, contains_entry_unless_null_tail e e.id os f.0 f.1, f.2, f.3)) p.1,
      )
  walk_files T dirs bases es ps written_tree saved (left_out_if_empty d b e rest inner below os m n found walk) trees deeper based basing known k name path
      mode id =
      let w = walk_files T d b rest below os n walk (λ x l h. trees x l (inr h)) deeper (λ x l h. based x l (inr h)) basing
      (known_append_right T inner below known) k name path mode id in
      let root = emits_below_root_open (in_dir e.name d) (in_dir e.name b) inner [] m found in
      let lower = emits_below_files T (in_dir e.name d) (in_dir e.name b) inner [] m found (deeper e.name) (basing e.name)
      (known_append_left T inner below known) k path mode id in (
        (λ h. part_cons T k d e rest name path mode id (w.0 h)),
        λ p. ⊎_elim (λ same. let named : e.name ≡ name = ap (λ (x : EntryView). x.name) same ∙ p.2 in
            absurd (no_open_files_of_no_entries T k path mode id
            (lower.1 (subst (λ n. OpenFiles T k (in_dir n d) path mode id) (sym named)
            (open_files_of_match_option T k d name root.0 p.0 path mode id (subst (λ n. d (n ∷ []) ≡ Some root.0) named root.1) p.3)))))
            (λ l. w.1 (p.0, l, p.2, p.3)) p.1,
      )
  walk_files T dirs bases es ps written_tree saved (unchanged d b e first rest more_written inner below os m n found same walk) trees deeper based basing
      known k name path
      mode id =
      let w = walk_files T d b rest below os n walk (λ x l h. trees x l (inr h)) deeper (λ x l h. based x l (inr h)) basing
      (known_append_right T inner below known) k name path mode id in
      let root = emits_below_root_open (in_dir e.name d) (in_dir e.name b) inner (first ∷ more_written) m found in
      let lower = emits_below_files T (in_dir e.name d) (in_dir e.name b) inner (first ∷ more_written) m found (deeper e.name) (basing e.name)
      (known_append_left T inner below known) k path mode id in
      emitted_files_cons T k d e rest os (first ∷ more_written) root.0 e.id (tree_at_of_is_at_cons T e.id first more_written
      (based e (first ∷ more_written) (inl refl) same))
      (trees e root.0 (inl refl) root.1) root.1 name path mode id lower w
  walk_files T dirs bases es ps written_tree saved (written d b e first rest more_written inner below os m n named_id found differ walk) trees deeper based
      basing known k
      name path mode id =
      let pair = known_append_right T inner ((named_id, first ∷ more_written) ∷ below) known in
      let w = walk_files T d b rest below os n walk (λ x l h. trees x l (inr h)) deeper (λ x l h. based x l (inr h)) basing pair.1 k name path mode id in
      let root = emits_below_root_open (in_dir e.name d) (in_dir e.name b) inner (first ∷ more_written) m found in
      let lower = emits_below_files T (in_dir e.name d) (in_dir e.name b) inner (first ∷ more_written) m found (deeper e.name) (basing e.name)
      (known_append_left T inner ((named_id, first ∷ more_written) ∷ below) known) k path mode id in
      emitted_files_cons T k d e rest os (first ∷ more_written) root.0 named_id pair.0 (trees e root.0 (inl refl) root.1) root.1 name path mode id lower w

some_of_has_at : (o : Option (List EntryView)) (e : EntryView) → HasAt o e → (es : List EntryView) × (o ≡ Some es) × ContainsEntry es e
some_of_has_at None e h = absurd h
some_of_has_at (Some es) e h = (es, refl, h)

pub are_trees_of_opened : (dirs : Dirs) → IsOpened dirs → AreTrees dirs
are_trees_of_opened dirs is path e es has there =
    let above = is.above path e.name es there in
    let here = some_of_has_at (dirs path) e has in
    let other = subst (λ o. HasAt o above.0) here.1 above.1 in
    let same = entry_of_name_unique here.0 (is.well_formed path here.0 here.1).apart above.0 e other here.2 above.2 in
    ap (λ (x : EntryView). is_tree_mode x.mode) (sym same) ∙ above.3
