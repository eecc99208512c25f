-- Entries inserted by a cursor, one after the other, and the files that they make; the proofs of `with_entries_at` and
-- its helpers use it.
use Rattle.std.proofs.Common.{◌≡◌, ◌∙◌, ◌≤◌, ◌<◌, ◌+◌, ℕ, List, [], ◌∷◌, ◌++◌, Err, Ok, Result, ap, drop, get_or, inl, inr, length, map, refl, subst, sym, take}
use Rattle.std.specs.Prelude.{IfErr, OnOk}
use Rattle.std.proofs.lemmas.List.{drop_more, take-append-drop, take_all, take_more}
use Rattle.gix_object.specs.Entries.{Pair, EntryView}
use Rattle.gix_object.specs.Bases.{HasBases}
use Rattle.gix_object.specs.Calls.{names_of}
use Rattle.gix_object.specs.Cursors.{IsCursorEditError, from_root}
use Rattle.gix_object.specs.Files.{Ensured, Files, NamedFiles, Path, SameFiles, Table, Trees, Upserted}
use Rattle.gix_object.specs.History.{FilesAfter}
use Rattle.gix_object.specs.Mode.{mode_of_kind}
use Rattle.gix_object.specs.Openings.{AreTreesOf, OfTrees}
use Rattle.gix_object.specs.State.{EditorFiles, State, new_state, open_bases, open_dirs}
use Rattle.gix_object.specs.Tables.{AgreesWithPairs, AgreesWithStore}
use Rattle.gix_object.specs.Upserts.{IsUpserted, IsUpsertError}
use Rattle.gix_object.specs.write.write.Written.{Written}
use Rattle.gix_object.specs.directories.error.Error.{Error}
use Rattle.gix_object.specs.hash.hash.kind.Kind.{Kind}
use Rattle.gixobj_examples_edits.specs.Checkouts.{AreNotInserted, AreInserted, IsCheckedOut, IsFilled, IsMade, IsNotFilled, IsNotInsertedAt, IsInsertedAt}
use Rattle.gixobj_examples_edits.specs.Checkouts.{insert_at, steps_of_checkout}
use Rattle.gixobj_examples_edits.specs.declared.checkout.Planned.{Planned}
use Rattle.gix_object.proofs.Files.{history_congruent, same_files_refl, same_files_trans}
use Rattle.gix_object.specs.Stores.{StoreModel}

module _ {S : Type 0} (model : StoreModel S) (prefix : Path) where
  one_more : (old mid new : State S) (entries : List Planned) (entry : Planned) → AreInserted model prefix old entries mid
      → IsInsertedAt model prefix mid entry new → AreInserted model prefix old (entries ++ entry ∷ []) new
  one_more old mid new [] entry none inserted = (new, subst (λ (state : State S). IsInsertedAt model prefix state entry new) none inserted, refl)
  one_more old mid new (first ∷ entries) entry (between, before, rest) inserted =
      (between, before, one_more between mid new entries entry rest inserted)

  rejected_after : (old mid : State S) (head : List Planned) (entry : Planned) (following : List Planned) (error : Error)
      → AreInserted model prefix old head mid → IsNotInsertedAt model prefix mid entry error
      → AreNotInserted model prefix old (head ++ entry ∷ following) error
  rejected_after old mid [] entry following error none rejected =
      inl (subst (λ (state : State S). IsNotInsertedAt model prefix state entry error) none rejected)
  rejected_after old mid (first ∷ head) entry following error (between, inserted, rest) rejected =
      inr (between, inserted, rejected_after between mid head entry following error rest rejected)

  -- the next entry of a list is inserted, by a cursor with the same prefix
  pub next_inserted : (old new last : State S) (here path : Path) (entries : List Planned) (i : ℕ) (entry : Planned) → i < length entries
      → entry ≡ get_or entries i entry → here ≡ prefix → path ≡ names_of entry.path.items
      → AreInserted model prefix old (take i entries) new
      → OfTrees (model.objects new.store) (λ trees. IsUpserted trees new (from_root here path) (mode_of_kind entry.kind) entry.id last)
      → AreInserted model prefix old (take (i + 1) entries) last
  next_inserted old new last here path entries i entry low is same_prefix same_path before inserted =
      let at_path = subst (λ (p : Path). OfTrees (model.objects new.store)
      (λ trees. IsUpserted trees new (from_root here p) (mode_of_kind entry.kind) entry.id last)) same_path inserted in
      let at = subst (λ (p : Path). OfTrees (model.objects new.store)
      (λ trees. IsUpserted trees new (from_root p (names_of entry.path.items)) (mode_of_kind entry.kind) entry.id last)) same_prefix at_path in
      let more : take (i + 1) entries ≡ take i entries ++ entry ∷ [] = take_more entries i entry low ∙ ap (λ (x : Planned). take i entries ++ x ∷ [])
      (sym is) in
      subst (λ (xs : List Planned). AreInserted model prefix old xs last) (sym more) (one_more old new last (take i entries) entry before at)

  -- the next entry of a list isn't inserted
  pub next_rejected : (old new : State S) (here path : Path) (entries : List Planned) (i : ℕ) (entry : Planned) (error : Error) → i < length entries
      → entry ≡ get_or entries i entry → here ≡ prefix → path ≡ names_of entry.path.items
      → AreInserted model prefix old (take i entries) new
      → OfTrees (model.objects new.store)
      (λ trees. IsCursorEditError path (IsUpsertError (model.objects new.store) (model.may_fail new.store) trees (open_dirs new)
      (from_root here path))
      error)
      → AreNotInserted model prefix old entries error
  next_rejected old new here path entries i entry error low is same_prefix same_path before rejected =
      let at_path = subst (λ (p : Path). OfTrees (model.objects new.store)
      (λ trees. IsCursorEditError p (IsUpsertError (model.objects new.store) (model.may_fail new.store) trees (open_dirs new) (from_root here p))
      error))
      same_path rejected in
      let at = subst (λ (p : Path). OfTrees (model.objects new.store) (λ trees. IsCursorEditError (names_of entry.path.items)
      (IsUpsertError (model.objects new.store) (model.may_fail new.store) trees (open_dirs new) (from_root p (names_of entry.path.items))) error))
      same_prefix
      at_path in
      let entire : take i entries ++ entry ∷ drop (i + 1) entries ≡ entries =
      ap (λ (x : Planned). take i entries ++ x ∷ drop (i + 1) entries) is ∙ ap (λ (xs : List Planned). take i entries ++ xs)
      (sym (drop_more entries i entry low)) ∙ take-append-drop i entries in
      subst (λ (xs : List Planned). AreNotInserted model prefix old xs error) entire
      (rejected_after old new (take i entries) entry (drop (i + 1) entries) error before at)

  pub all_inserted : (old new : State S) (entries : List Planned) (i : ℕ) → length entries ≤ i → AreInserted model prefix old (take i entries) new
      → AreInserted model prefix old entries new
  all_inserted old new entries i past before = subst (λ (xs : List Planned). AreInserted model prefix old xs new) (take_all i entries past) before

  -- after a cursor was made at a path, with the editor as the cursor left it
  pub filled_after : (r : Result Unit Error) (old made last remaining : State S) (path : Path) (entries : List Planned) → remaining ≡ last
      → prefix ≡ path
      → IsMade model old path made
      → OnOk r (AreInserted model prefix made entries last) → OnOk r (IsFilled model old path entries remaining)
  filled_after (Ok it) old made last remaining path entries is_remaining same_prefix is_made inserted =
      let here = subst (λ (state : State S). AreInserted model prefix made entries state) (sym is_remaining) inserted in
      (made, is_made, subst (λ (p : Path). AreInserted model p made entries remaining) same_prefix here)
  filled_after (Err error) old made last remaining path entries is_remaining same_prefix is_made inserted = tt

  pub rejected_in : (r : Result Unit Error) (old made : State S) (path : Path) (entries : List Planned) → prefix ≡ path → IsMade model old path made
      → IfErr r (AreNotInserted model prefix made entries) → IfErr r (IsNotFilled model old path entries)
  rejected_in (Ok it) old made path entries same_prefix is_made rejected = tt
  rejected_in (Err error) old made path entries same_prefix is_made rejected =
      inr (made, is_made, subst (λ (p : Path). AreNotInserted model p made entries error) same_prefix rejected)

  module _ (trees : Trees) (T : Table) (n : ℕ) (agrees : AgreesWithStore T trees) where
    inserted_files : (old new : State S) (entries : List Planned) → AreInserted model prefix old entries new
        → AreTreesOf (model.objects old.store) trees
        → SameFiles (EditorFiles T n new) (FilesAfter T n (map (insert_at prefix) entries) (EditorFiles T n old))
    inserted_files old new [] none fits = subst (λ (state : State S). SameFiles (EditorFiles T n new) (EditorFiles T n state)) none (same_files_refl _)
    inserted_files old new (entry ∷ entries) (between, inserted, rest) fits =
        let done = inserted trees fits in
        let still = subst (λ (store : S). AreTreesOf (model.objects store) trees) (sym (ap (λ (state : State S). state.store) done.rest)) fits in
        same_files_trans _ _ _ (inserted_files between new entries rest still)
        (history_congruent T n (map (insert_at prefix) entries) (EditorFiles T n between)
        (Upserted T n (from_root prefix (names_of entry.path.items)) (mode_of_kind entry.kind) entry.id (EditorFiles T n old))
        (done.files T n agrees))

    inserted_based : (old new : State S) (entries : List Planned) → AreInserted model prefix old entries new
        → AreTreesOf (model.objects old.store) trees
        → HasBases T (open_dirs old) (open_bases old) → HasBases T (open_dirs new) (open_bases new)
    inserted_based old new [] none fits has = subst (λ (state : State S). HasBases T (open_dirs state) (open_bases state)) (sym none) has
    inserted_based old new (entry ∷ entries) (between, inserted, rest) fits has =
        let done = inserted trees fits in
        let still = subst (λ (store : S). AreTreesOf (model.objects store) trees) (sym (ap (λ (state : State S). state.store) done.rest)) fits in
        inserted_based between new entries rest still (done.has_bases T agrees has)

    filled_based : (old new : State S) (entries : List Planned) → IsFilled model old prefix entries new → AreTreesOf (model.objects old.store) trees
        → HasBases T (open_dirs old) (open_bases old) → HasBases T (open_dirs new) (open_bases new)
    filled_based old new entries (made, is_made, inserted) fits has =
        let done = is_made trees fits in
        let still = subst (λ (store : S). AreTreesOf (model.objects store) trees) (sym (ap (λ (state : State S). state.store) done.rest)) fits in
        inserted_based made new entries inserted still (done.has_bases T agrees has)

    filled_files : (old new : State S) (entries : List Planned) → IsFilled model old prefix entries new → AreTreesOf (model.objects old.store) trees
        → SameFiles (EditorFiles T n new) (FilesAfter T n (steps_of_checkout prefix entries) (EditorFiles T n old))
    filled_files old new entries (made, is_made, inserted) fits =
        let done = is_made trees fits in
        let still = subst (λ (store : S). AreTreesOf (model.objects store) trees) (sym (ap (λ (state : State S). state.store) done.rest)) fits in
        same_files_trans _ _ _ (inserted_files made new entries inserted still)
        (history_congruent T n (map (insert_at prefix) entries) (EditorFiles T n made) (Ensured prefix (EditorFiles T n old)) (done.files T n agrees))

    -- the named tree has the files that the steps make of the root's
    pub checked_out_files : {F : Type 0} (gave : F → Pair → F → Type 0) (out : F) (store : S) (object_hash : Kind) (root : List EntryView)
        (entries : List Planned) (written : Written)
        → HasBases T (open_dirs (new_state root store object_hash)) (open_bases (new_state root store object_hash))
        → SameFiles (EditorFiles T n (new_state root store object_hash)) (Files T n root)
        → IsCheckedOut model (new_state root store object_hash) prefix entries gave out written → AreTreesOf (model.objects store) trees
        → AgreesWithPairs T written.trees.items
        → SameFiles (NamedFiles T n written.id) (FilesAfter T n (steps_of_checkout prefix entries) (Files T n root))
    checked_out_files gave out store object_hash root entries written bases begun (filled, remaining, last, is_filled, wrote) fits pairs =
        let has = filled_based (new_state root store object_hash) filled entries is_filled fits bases in
        same_files_trans _ _ _ (wrote.files T n pairs has)
        (same_files_trans _ _ _ (filled_files (new_state root store object_hash) filled entries is_filled fits)
        (history_congruent T n (steps_of_checkout prefix entries) (EditorFiles T n (new_state root store object_hash)) (Files T n root) begun))
