-- The open directories, and what a write emits, if the entries of tree mode come from writes alone: for the editor's
-- law of one id for equal files.
use Rattle.std.proofs.Common.{◌≡◌, ◌≢◌, inl, inr, ⊎_elim, ℕ, true, List, [], ◌∷◌, ◌++◌, refl, sym, ap, subst, ◌∙◌, Option, Some, None, Contains}
use Rattle.std.specs.List.{AllByRecursion}
use Rattle.std.proofs.lemmas.List.Elements.{All-contains}
use Rattle.gixobj_tree_entries.specs.Entries.{EntryView, Pair}
use Rattle.gixobj_tree_entries.specs.Mode.{is_tree_mode, tree_type}
use Rattle.gixobj_hash.specs.Hash.{id_kind}
use Rattle.gixobj_hash.specs.declared.hash.object_id.ObjectId.{ObjectId}
use Rattle.gixobj_editor_files.specs.Edits.{Finds}
use Rattle.gixobj_editor_files.specs.Files.{ContainsEntry, Table, Trees}
use Rattle.gixobj_editor_files.specs.Opening.{Dirs, HasAt, in_dir}
use Rattle.gixobj_editor_files.specs.Tables.{AgreesWithPairs, AgreesWithStore}
use Rattle.gixobj_editor_files.proofs.Canonical.{IsBuilt, IsClean, built}
use Rattle.gixobj_editor_files.proofs.Everywhere.{Everywhere, Lasts, OfEntry}
use Rattle.gixobj_editor_files.proofs.WrittenFiles.{has_non_null_cons}
use Rattle.gixobj_editor_files.specs.Emission.{EmitsBelow, EmitsEntries, left_out_if_empty, end, entry_unless_null, of_entries, unopened, unchanged, written}
use Rattle.gixobj_editor_files.proofs.Based.{some_list_unique}

-- the id of the entry is that of a pair whose tree is built and isn't empty
pub record IsOfPair (pairs : List Pair) (id : ObjectId) : Type 0 where
  pub tree : List EntryView
  pub filled : tree ≢ []
  pub named : Contains pairs (id, tree)
  pub is_built : IsBuilt pairs tree

-- an entry of tree mode has the mode 040000, and an id of a pair if it isn't open; a base that isn't empty is the tree
-- of the entry's id
pub record IsPlain (pairs : List Pair) (e : EntryView) (here base : Option (List EntryView)) : Type 0 where
  pub mode : is_tree_mode e.mode ≡ true → e.mode ≡ tree_type
  pub its_pair : is_tree_mode e.mode ≡ true → here ≡ None → IsOfPair pairs e.id
  pub based : (list : List EntryView) → base ≡ Some list → list ≢ [] → Contains pairs (e.id, list) × IsBuilt pairs list

abbrev pub Plain : List Pair → OfEntry
Plain pairs e here base = IsPlain pairs e here base

-- each entry of tree mode that isn't open has the id of a pair
abbrev pub RestsOn : List Pair → List EntryView → Type 0
RestsOn pairs entries = (e : EntryView) → ContainsEntry entries e → is_tree_mode e.mode ≡ true → (e.mode ≡ tree_type) × IsOfPair pairs e.id

pub is_plain_of_rests_on : (pairs : List Pair) (entries : List EntryView) → RestsOn pairs entries → (e : EntryView) → ContainsEntry entries e
    → IsPlain pairs e None None
is_plain_of_rests_on pairs entries rests e h = record { mode = λ t. (rests e h t).0; its_pair = λ t none. (rests e h t).1; based = λ list is. absurd (cc is) }

pub rests_on_of_is_built : (pairs : List Pair) (entries : List EntryView) → IsBuilt pairs entries → RestsOn pairs entries
rests_on_of_is_built pairs entries (built l clean modes tree filled named deep) e h t =
    (modes e h t, record { tree = tree e h t; filled = filled e h t; named = named e h t; is_built = deep e h t })

pub is_built_of_rests_on : (pairs : List Pair) (entries : List EntryView) → IsClean entries → RestsOn pairs entries → IsBuilt pairs entries
is_built_of_rests_on pairs entries clean rests =
    built entries clean (λ e h t. (rests e h t).0) (λ e h t. (rests e h t).1.tree) (λ e h t. (rests e h t).1.filled) (λ e h t. (rests e h t).1.named)
    (λ e h t. (rests e h t).1.is_built)

module _ (T : Table) (pairs : List Pair) (known : AgreesWithPairs T pairs) where
  its_tree : (id : ObjectId) (tree : List EntryView) → Contains pairs (id, tree) → T.tree_at id ≡ Some tree
  its_tree id tree has = All-contains (λ pair. T.tree_at pair.0 ≡ Some pair.1) pairs (id, tree) known has

  -- what a store has by the id of a pair is the tree of the pair
  found_is : (trees : Trees) → AgreesWithStore T trees → (id : ObjectId) (it : IsOfPair pairs id) (entries : List EntryView) (looked_up : List ObjectId)
      → Finds trees id entries looked_up → it.tree ≡ entries
  found_is trees agrees id it entries looked_up (formed, inl (inl null, empty, none)) =
      absurd (let bad : Some it.tree ≡ None = sym (its_tree id it.tree it.named) ∙ T.nothing_by_null id null in cc bad)
  found_is trees agrees id it entries looked_up (formed, inl (inr is, empty, none)) =
      some_list_unique it.tree entries (sym (its_tree id it.tree it.named) ∙ ap T.tree_at is ∙ T.none_in_empty (id_kind id) ∙ ap Some (sym empty))
  found_is trees agrees id it entries looked_up (formed, inr (filled, is, requests)) =
      some_list_unique it.tree entries (sym (its_tree id it.tree it.named) ∙ agrees id entries filled is)

  pub plain_lasts : (trees : Trees) (null : ObjectId) → AgreesWithStore T trees → Lasts (Plain pairs) trees null
  plain_lasts trees null agrees = record {
    not_open = λ e base p. record { mode = p.mode; its_pair = p.its_pair; based = λ list is. absurd (cc is) };
    still = λ e was now base p. record { mode = p.mode; its_pair = λ t none. absurd (cc none); based = p.based };
    made = λ name now. record {
      mode = λ t. refl;
      its_pair = λ t none. absurd (cc none);
      based =
          λ list is some. absurd (some (sym (some_list_unique [] list is)));
    };
    opened = λ e base entries looked_up p tree finds.
        let it : IsOfPair pairs e.id = p.its_pair tree refl in
        let same : it.tree ≡ entries = found_is trees agrees e.id it entries looked_up finds in (
          record {
            mode = p.mode;
            its_pair = λ t none. absurd (cc none);
            based = λ list is some. let is_list : it.tree ≡ list =
                same ∙ some_list_unique entries list is in (subst (λ l. Contains pairs (e.id, l)) is_list it.named, subst (IsBuilt pairs) is_list it.is_built);
          },
          is_plain_of_rests_on pairs entries (subst (RestsOn pairs) same (rests_on_of_is_built pairs it.tree it.is_built)),
        );
  }

-- a property of pairs holds of a prefix of them, and of the rest
module _ (Q : Pair → Type 0) where
  pub all_remaining : (xs ys : List Pair) → AllByRecursion Q (xs ++ ys) → AllByRecursion Q xs
  all_remaining [] ys h = tt
  all_remaining (x ∷ xs) ys h = (h.0, all_remaining xs ys h.1)

  pub all_right : (xs ys : List Pair) → AllByRecursion Q (xs ++ ys) → AllByRecursion Q ys
  all_right [] ys h = h
  all_right (x ∷ xs) ys h = all_right xs ys h.1

  pub all_joined : (xs ys : List Pair) → AllByRecursion Q xs → AllByRecursion Q ys → AllByRecursion Q (xs ++ ys)
  all_joined [] ys h k = k
  all_joined (x ∷ xs) ys h k = (h.0, all_joined xs ys h.1 k)

-- an emitted pair has a tree without null ids
abbrev pub IsEmitted : List Pair → Pair → Type 0
IsEmitted pairs pair = Contains pairs pair × IsClean pair.1

abbrev pub HasBuilt : List Pair → Pair → Type 0
HasBuilt pairs pair = IsBuilt pairs pair.1

module _ (pairs : List Pair) where
  -- an entry with its id, before others that have ids of pairs
  rests_more : (e : EntryView) (id : ObjectId) (os : List EntryView) → (is_tree_mode e.mode ≡ true → (e.mode ≡ tree_type) × IsOfPair pairs id)
      → RestsOn pairs os → RestsOn pairs (entry_unless_null e id ++ os)
  rests_more e id os here rests x h =
      ⊎_elim (λ one. subst (λ (y : EntryView). is_tree_mode y.mode ≡ true → (y.mode ≡ tree_type) × IsOfPair pairs y.id) one.1 here) (λ after. rests x after)
      (has_non_null_cons e id os x h)

  mutual
    pub emits_below_plain : (dirs bases : Dirs) (ps : List Pair) (written_tree : List EntryView) (saved : ℕ) → EmitsBelow dirs bases ps written_tree saved
        → Everywhere (Plain pairs) dirs bases → AllByRecursion (IsEmitted pairs) ps
        → RestsOn pairs written_tree × AllByRecursion (HasBuilt pairs) ps
    emits_below_plain dirs bases ps written_tree saved (of_entries d b es below os n is walk) all out =
        walk_plain d b es below os n walk (λ e h. all [] e (subst (λ o. HasAt o e) (sym is) h)) (λ first q. all (first ∷ q)) out

    walk_plain : (dirs bases : Dirs) (es : List EntryView) (ps : List Pair) (written_tree : List EntryView) (saved : ℕ)
        → EmitsEntries dirs bases es ps written_tree saved
        → ((e : EntryView) → ContainsEntry es e → IsPlain pairs e (dirs (e.name ∷ [])) (bases (e.name ∷ [])))
        → ((first : List ℕ) → Everywhere (Plain pairs) (in_dir first dirs) (in_dir first bases)) → AllByRecursion (IsEmitted pairs) ps
        → RestsOn pairs written_tree × AllByRecursion (HasBuilt pairs) ps
    walk_plain dirs bases es ps written_tree saved (end d b) here deeper out = ((λ e h. absurd h), tt)
    walk_plain dirs bases es ps written_tree saved (unopened d b e rest below os n none walk) here deeper out =
        let w = walk_plain d b rest below os n walk (λ x h. here x (inr h)) deeper out in
        let mine = here e (inl refl) in
        (rests_more e e.id os (λ t. (mine.mode t, mine.its_pair t none)) w.0, w.1)
    walk_plain dirs bases es ps written_tree saved (left_out_if_empty d b e rest inner below os m n found walk) here deeper out =
        let w = walk_plain d b rest below os n walk (λ x h. here x (inr h)) deeper (all_right (IsEmitted pairs) inner below out) in
        let lower = emits_below_plain (in_dir e.name d) (in_dir e.name b) inner [] m found (deeper e.name) (all_remaining (IsEmitted pairs) inner below out) in
        (w.0, all_joined (HasBuilt pairs) inner below lower.1 w.1)
    walk_plain dirs bases es ps written_tree saved (unchanged d b e first rest more_written inner below os m n found same walk) here deeper out =
        let w = walk_plain d b rest below os n walk (λ x h. here x (inr h)) deeper (all_right (IsEmitted pairs) inner below out) in
        let lower = emits_below_plain (in_dir e.name d) (in_dir e.name b) inner (first ∷ more_written) m found (deeper e.name)
        (all_remaining (IsEmitted pairs) inner below out) in
        let mine = here e (inl refl) in
        let some : first ∷ more_written ≢ [] = λ none. cc none in
        let it = mine.based (first ∷ more_written) same some in (
          rests_more e e.id os (λ t. (mine.mode t, record { tree = first ∷ more_written; filled = some; named = it.0; is_built = it.1 })) w.0,
          all_joined
              (HasBuilt pairs) inner below lower.1 w.1,
        )
    walk_plain dirs bases es ps written_tree saved (written d b e first rest more_written inner below os m n named_id found differ walk) here deeper out =
        let pair = all_right (IsEmitted pairs) inner ((named_id, first ∷ more_written) ∷ below) out in
        let w = walk_plain d b rest below os n walk (λ x h. here x (inr h)) deeper pair.1 in
        let lower = emits_below_plain (in_dir e.name d) (in_dir e.name b) inner (first ∷ more_written) m found (deeper e.name)
        (all_remaining (IsEmitted pairs) inner ((named_id, first ∷ more_written) ∷ below) out) in
        let mine = here e (inl refl) in
        let some : first ∷ more_written ≢ [] = λ none. cc none in
        let is : IsBuilt pairs (first ∷ more_written) = is_built_of_rests_on pairs (first ∷ more_written) (pair.0.1) lower.0 in (
          rests_more e named_id os (λ t. (mine.mode t, record { tree = first ∷ more_written; filled = some; named = pair.0.0; is_built = is })) w.0,
          all_joined
              (HasBuilt pairs) inner ((named_id, first ∷ more_written) ∷ below) lower.1 (is, w.1),
        )
