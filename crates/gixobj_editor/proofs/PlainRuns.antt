-- In a plain run each emitted tree is built up from emitted pairs; the proof of `OneId` uses it.
use mathlib.Core.Bool.{true≢false}
use Rattle.std.proofs.Common.{append-nil, ◌≡◌, ◌≢◌, ◌∙◌, inl, inr, ℕ, false, List, [], ◌∷◌, ◌++◌, Contains, Some, None, refl, sym, ap, subst}
use Rattle.std.specs.FinMap as map
use Rattle.std.specs.Prelude.{IsFalse}
use Rattle.std.specs.List.{AllByRecursion}
use Rattle.std.proofs.lemmas.List.Elements.{recursion_from_All}
use Rattle.gixobj_editor_write.specs.Calls.{IsStorable}
use Rattle.gixobj_editor_write.specs.declared.write.Written.{Written}
use Rattle.gixobj_editor.specs.Cursors.{IsEnsured, IsWrittenBelow}
use Rattle.gixobj_editor.specs.Removals.{IsRemovedUpTo}
use Rattle.gixobj_editor_lookups.specs.EditNames.{directory_of}
use Rattle.gixobj_editor.specs.Upserts.{IsUpserted}
use Rattle.gixobj_editor.specs.FailedEdits.{IsAfterFailedEdit}
use Rattle.gixobj_editor.specs.Writes.{IsWrittenEditor}
use Rattle.gixobj_editor_files.proofs.EnsuredFiles.{is_open_along_of_opens}
use Rattle.gixobj_editor_files.proofs.Canonical.{IsClean}
use Rattle.gixobj_editor_files.proofs.EditedFiles.{root_alone_at_root, root_alone_below_root}
use Rattle.gixobj_editor_files.proofs.LastingProperties.{everywhere_in_path}
use Rattle.gixobj_editor_files.proofs.Everywhere.{Everywhere, everywhere_ensured, everywhere_opened, everywhere_removed, everywhere_upserted}
use Rattle.gixobj_editor_files.proofs.Everywhere.{everywhere_written}
use Rattle.gixobj_editor_files.proofs.OpeningFiles.{opens_makes_ready}
use Rattle.gixobj_editor_files.proofs.Plain.{IsEmitted, HasBuilt, Plain, all_joined, all_remaining, all_right, is_built_of_rests_on, is_plain_of_rests_on}
use Rattle.gixobj_editor_files.proofs.Plain.{emits_below_plain, plain_lasts}
use Rattle.gixobj_editor_files.proofs.StillOpenedOpenings.{is_opened_of_only, is_opened_of_opens}
use Rattle.gixobj_editor_files.proofs.UpsertedFiles.{IsReady}
use Rattle.gixobj_editor_files.specs.Bases.{edited_bases, opened_bases}
use Rattle.gixobj_editor_files.specs.Edits.{IsNoTree, Opens, ensured_dirs, only_open, removed_dirs, upserted_dirs, with_path}
use Rattle.gixobj_editor_files.specs.Files.{ContainsEntry, Path, Table, Trees, is_null}
use Rattle.gixobj_editor_files.specs.Emission.{EmitsBelow, of_entries}
use Rattle.gixobj_editor_files.specs.Opening.{Dirs, IsOpened, in_path}
use Rattle.gixobj_editor_files.specs.State.{DirMap, State, open_bases, open_dirs, root_alone}
use Rattle.gixobj_editor_files.specs.Tables.{AgreesWithPairs, AgreesWithStore}
use Rattle.gixobj_hash.specs.Hash.{null_id}
use Rattle.gixobj_hash.specs.declared.hash.object_id.ObjectId.{ObjectId}
use Rattle.gixobj_store.specs.Stores.{StoreModel}
use Rattle.gixobj_editor_lookups.specs.declared.error.Error.{Error}
use Rattle.gixobj_tree_entries.specs.Entries.{EntryView, Pair}
use Rattle.gixobj_tree_entries.specs.Mode.{is_tree_mode}
use Rattle.gixobj_editor_lookups.proofs.Paths.{directory_of_snoc}
use Rattle.gixobj_editor_lookups.proofs.Removing.{path_nil_or_snoc}

abbrev no_trees : Trees
no_trees = λ id. None

is_clean_of_is_storable : (entries : List EntryView) → IsStorable entries → IsClean entries
is_clean_of_is_storable entries storable =
    record { formed = storable.well_formed; filled = each entries (recursion_from_All (λ (e : EntryView). IsFalse (is_null e.id)) entries storable.no_nulls) }
  where
    each : (es : List EntryView) → AllByRecursion (λ e. IsFalse (is_null e.id)) es → (e : EntryView) → ContainsEntry es e → is_null e.id ≡ false
    each [] all e h = absurd h
    each (x ∷ es) all e (inl same) = subst (λ (y : EntryView). is_null y.id ≡ false) same all.0
    each (x ∷ es) all e (inr h) = each es all.1 e h

-- the last trees of two equal lists of pairs are equal
last_tree_unique : (head back : List Pair) (x y : ObjectId) (written_tree other : List EntryView) → head ++ (x, written_tree) ∷ [] ≡ back ++ (y, other) ∷ []
    → written_tree ≡ other
last_tree_unique [] [] x y written_tree other is = let same : ◌≡◌ {A = Pair} (x, written_tree) (y, other) = cc is in ap (λ (p : Pair). p.1) same
last_tree_unique [] (b ∷ []) x y written_tree other is = absurd (cc is)
last_tree_unique [] (b ∷ c ∷ back) x y written_tree other is = absurd (cc is)
last_tree_unique (a ∷ []) [] x y written_tree other is = absurd (cc is)
last_tree_unique (a ∷ c ∷ head) [] x y written_tree other is = absurd (cc is)
last_tree_unique (a ∷ head) (b ∷ back) x y written_tree other is = last_tree_unique head back x y written_tree other (cc is)

-- a directory that emits is open
prefix_open_of_emits_below : (prefix : Path) (dirs bases : Dirs) (below : List Pair) (written_tree : List EntryView) (saved : ℕ)
    → EmitsBelow (in_path prefix dirs) (in_path prefix bases) below written_tree saved → dirs prefix ≢ None
prefix_open_of_emits_below prefix dirs bases below written_tree saved (of_entries d b entries ps os n is walk) none = let bad : Some entries ≡ None = sym is
    ∙ ap dirs (append-nil prefix)
    ∙ none in cc bad

root_alone_get : (es : List EntryView) (at : Path) → map.get (root_alone es) at ≡ only_open es at
root_alone_get es [] = root_alone_at_root es
root_alone_get es (name ∷ path) = root_alone_below_root es name path

module _ (T : Table) (pairs : List Pair) (known : AgreesWithPairs T pairs) where
  abbrev pub IsPlainState : {S : Type 0} → State S → Type 0
  IsPlainState state = IsOpened (open_dirs state) × Everywhere (Plain pairs) (open_dirs state) (open_bases state)

  -- what holds at each path holds for equal directories
  carried : (dirs bases new remaining : Dirs) → ((at : Path) → new at ≡ dirs at) → ((at : Path) → remaining at ≡ bases at) → Everywhere (Plain pairs) dirs bases
      → Everywhere (Plain pairs) new remaining
  carried dirs bases new remaining same same_bases all = subst (λ (b : Dirs). Everywhere (Plain pairs) new b) (sym (λ i at. same_bases at i))
      (subst (λ (d : Dirs). Everywhere (Plain pairs) d bases) (sym (λ i at. same at i)) all)

  edited : (old bases opened made new remaining : Dirs) → ((at : Path) → new at ≡ made at)
      → ((at : Path) → remaining at ≡ edited_bases opened new (opened_bases old opened bases) at)
      → Everywhere (Plain pairs) made (edited_bases opened made (opened_bases old opened bases)) → Everywhere (Plain pairs) new remaining
  edited old bases opened made new remaining dirs_are bases_are lasts =
      carried made (edited_bases opened made (opened_bases old opened bases)) new remaining dirs_are
      (subst (λ (d : Dirs). (at : Path) → remaining at ≡ edited_bases opened d (opened_bases old opened bases) at) (λ i at. dirs_are at i) bases_are) lasts

  ready : (trees : Trees) (path : Path) (old opened : Dirs) (queries : List ObjectId) → Opens IsNoTree trees (directory_of path) old opened queries
      → IsReady path opened
  ready trees path old opened queries opens = elim (path_nil_or_snoc path) [
    | inl none ↦ subst (λ p. IsReady p opened) (sym none) tt
    | inr ends ↦ subst (λ p. IsReady p opened) (sym ends.2)
        (opens_makes_ready trees ends.0 ends.1 old opened queries
        (subst (λ p. Opens IsNoTree trees p old opened queries) (ap directory_of ends.2 ∙ directory_of_snoc ends.0 ends.1) opens))
  ]

  module _ {S : Type 0} (trees : Trees) (agrees : AgreesWithStore T trees) (old new : State S) (holds : IsPlainState old) where
    pub plain_upserted : (path : Path) (mode : ℕ) (id : ObjectId) → is_tree_mode mode ≡ false → IsUpserted trees old path mode id new → IsPlainState new
    plain_upserted path mode id other h = (
      h.is_opened,
      edited (open_dirs old) (open_bases old) h.opened (upserted_dirs path mode id (null_id old.object_hash) h.opened) (open_dirs new)
          (open_bases new) h.dirs h.bases
          (everywhere_upserted (Plain pairs) trees (null_id old.object_hash) (plain_lasts T pairs known trees (null_id old.object_hash) agrees) path mode id
          h.opened (opened_bases (open_dirs old) h.opened (open_bases old))
          (λ name. record {
            mode = λ t. absurd (true≢false (sym t ∙ other));
            its_pair = λ t. absurd (true≢false (sym t ∙ other));
            based = λ list is. absurd
                (cc is);
          }) (ready trees path (open_dirs old) h.opened h.looked_up h.opens)
          ((is_opened_of_opens trees (directory_of path) (open_dirs old) h.opened h.looked_up h.opens holds.0).above)
          (everywhere_opened (Plain pairs) trees (null_id old.object_hash) (plain_lasts T pairs known trees (null_id old.object_hash) agrees)
          (directory_of path) (open_dirs old) h.opened h.looked_up h.opens (open_bases old) holds.1)),
    )

    pub plain_removed : {StopsBefore : EntryView → Type 0} (path : Path) → IsRemovedUpTo StopsBefore trees old path new → IsPlainState new
    plain_removed path h = (
      h.is_opened,
      edited (open_dirs old) (open_bases old) h.opened (removed_dirs path h.opened) (open_dirs new) (open_bases new) h.dirs h.bases
          (everywhere_removed (Plain pairs) trees (null_id old.object_hash) (plain_lasts T pairs known trees (null_id old.object_hash) agrees) path h.opened
          (opened_bases (open_dirs old) h.opened (open_bases old))
          (everywhere_opened (Plain pairs) trees (null_id old.object_hash) (plain_lasts T pairs known trees (null_id old.object_hash) agrees)
          (directory_of path) (open_dirs old) h.opened h.looked_up h.opens (open_bases old) holds.1)),
    )

    pub plain_ensured : (path : Path) → IsEnsured trees old path new → IsPlainState new
    plain_ensured path h = (
      h.is_opened,
      edited (open_dirs old) (open_bases old) h.opened (ensured_dirs path (null_id old.object_hash) h.opened) (open_dirs new) (open_bases new) h.dirs h.bases
          (everywhere_ensured (Plain pairs) trees (null_id old.object_hash) (plain_lasts T pairs known trees (null_id old.object_hash) agrees) path h.opened
          (opened_bases (open_dirs old) h.opened (open_bases old))
          (is_open_along_of_opens trees path (open_dirs old) h.opened h.looked_up h.opens)
          ((is_opened_of_opens trees path (open_dirs old) h.opened h.looked_up h.opens holds.0).above)
          (everywhere_opened (Plain pairs) trees (null_id old.object_hash) (plain_lasts T pairs known trees (null_id old.object_hash) agrees) path
          (open_dirs old) h.opened h.looked_up h.opens (open_bases old) holds.1)),
    )

    pub plain_failed : (model : StoreModel S) (path : Path) (failure : Error) → IsAfterFailedEdit model trees old path failure new → IsPlainState new
    plain_failed model path failure h = (
      h.is_opened,
      carried (open_dirs new) (opened_bases (open_dirs old) (open_dirs new) (open_bases old)) (open_dirs new) (open_bases new) (λ at. refl) h.bases
          (everywhere_opened (Plain pairs) trees (null_id old.object_hash) (plain_lasts T pairs known trees (null_id old.object_hash) agrees) h.opening.reached
          (open_dirs old) (open_dirs new) h.opening.looked_up h.opening.opens (open_bases old) holds.1),
    )

  -- the emitted pairs are of these pairs, and the trees of the open directories are built up from them
  abbrev pub Within : List Pair → Type 0
  Within ps = AllByRecursion (λ pair. Contains pairs pair) ps

  abbrev pub AreBuilt : List Pair → Type 0
  AreBuilt ps = AllByRecursion (HasBuilt pairs) ps

  goes_out : (ps : List Pair) → Within ps → AllByRecursion (λ pair. IsStorable pair.1) ps → AllByRecursion (IsEmitted pairs) ps
  goes_out [] within storable = tt
  goes_out (pair ∷ ps) within storable = ((within.0, is_clean_of_is_storable pair.1 storable.0), goes_out ps within.1 storable.1)

  is_plain_after_write : {S : Type 0} (old new : State S) (prefix : Path) (below : List Pair) (id : ObjectId) (written_tree : List EntryView) (saved : ℕ)
      → IsPlainState old
      → EmitsBelow (in_path prefix (open_dirs old)) (in_path prefix (open_bases old)) below written_tree saved
      → Within (below ++ (id, written_tree) ∷ []) → AllByRecursion (λ pair. IsStorable pair.1) (below ++ (id, written_tree) ∷ [])
      → ((at : Path) → open_dirs new at ≡ with_path prefix (only_open written_tree) (open_dirs old) at)
      → ((at : Path) → open_bases new at ≡ edited_bases (open_dirs old) (open_dirs new) (open_bases old) at)
      → Everywhere (Plain pairs) (open_dirs new) (open_bases new) × AreBuilt (below ++ (id, written_tree) ∷ [])
  is_plain_after_write old new prefix below id written_tree saved holds going within storable dirs_are bases_are =
      let out = goes_out (below ++ (id, written_tree) ∷ []) within storable in
      let mine = all_right (IsEmitted pairs) below ((id, written_tree) ∷ []) out in
      let it = emits_below_plain pairs (in_path prefix (open_dirs old)) (in_path prefix (open_bases old)) below written_tree saved going
      (everywhere_in_path (Plain pairs) prefix (open_dirs old) (open_bases old) holds.1)
      (all_remaining (IsEmitted pairs) below ((id, written_tree) ∷ []) out) in
      let made : Dirs = with_path prefix (only_open written_tree) (open_dirs old) in (
        carried made (edited_bases (open_dirs old) made (open_bases old)) (open_dirs new) (open_bases new) dirs_are
            (subst (λ (d : Dirs). (at : Path) → open_bases new at ≡ edited_bases (open_dirs old) d (open_bases old) at) (λ i at. dirs_are at i) bases_are)
            (everywhere_written (Plain pairs) no_trees (null_id old.object_hash)
            (plain_lasts T pairs known no_trees (null_id old.object_hash) (λ it entries searched is. absurd (cc is))) prefix written_tree (open_dirs old)
            (open_bases old) (prefix_open_of_emits_below prefix (open_dirs old) (open_bases old) below written_tree saved going)
            (is_plain_of_rests_on pairs written_tree it.0) holds.1),
        all_joined (HasBuilt pairs) below ((id, written_tree) ∷ []) it.1 (is_built_of_rests_on pairs written_tree (mine.0.1) it.0, tt),
      )

  pub plain_below : {S F : Type 0} (gave : F → Pair → F → Type 0) (queries answered : F) (old new : State S) (prefix : Path) (it : Written) → IsPlainState old
      → IsWrittenBelow gave queries old prefix it new answered → Within it.trees.items → IsPlainState new × AreBuilt it.trees.items
  plain_below gave queries answered old new prefix it holds h within =
      let out = h.emitted in
      let written_tree : h.written_tree ≡ out.2 = last_tree_unique h.below (out.0) it.id (out.1) h.written_tree (out.2) (sym h.last ∙ out.4) in
      let remaining = is_plain_after_write old new prefix out.0 out.1 out.2 out.3.0 holds out.3.1 (subst Within out.4 within)
      (subst (λ (l : List Pair). AllByRecursion (λ pair. IsStorable pair.1) l) out.4
      (recursion_from_All (λ (pair : Pair). IsStorable pair.1) it.trees.items h.storable))
      (subst (λ (l : List EntryView). (at : Path) → open_dirs new at ≡ with_path prefix (only_open l) (open_dirs old) at) written_tree h.dirs) h.bases in
      ((h.is_opened, remaining.0), subst AreBuilt (sym out.4) remaining.1)

  pub plain_root : {S F : Type 0} (gave : F → Pair → F → Type 0) (queries answered : F) (old new : State S) (it : Written) → IsPlainState old
      → IsWrittenEditor gave queries old it new answered → Within it.trees.items → IsPlainState new × AreBuilt it.trees.items
  plain_root gave queries answered old new it holds h within =
      let out = h.emitted in
      let written_tree : h.written_tree ≡ out.2 = last_tree_unique h.below (out.0) it.id (out.1) h.written_tree (out.2) (sym h.last ∙ out.4) in
      let storable = subst (λ (l : List Pair). AllByRecursion (λ pair. IsStorable pair.1) l) out.4
      (recursion_from_All (λ (pair : Pair). IsStorable pair.1) it.trees.items h.storable) in
      let alone : (at : Path) → open_dirs new at ≡ only_open out.2 at = λ at. ap (λ (m : DirMap). map.get m at) h.dirs ∙ root_alone_get h.written_tree at
      ∙ ap (λ (l : List EntryView). only_open l at) written_tree in
      let remaining = is_plain_after_write old new [] out.0 out.1 out.2 out.3.0 holds out.3.1 (subst Within out.4 within) storable alone h.bases in (
        (
          subst (λ (d : Dirs). IsOpened d) (sym (λ i at. alone at i))
              (is_opened_of_only out.2 (all_right (λ (pair : Pair). IsStorable pair.1) out.0 ((out.1, out.2) ∷ []) storable).0.well_formed),
          remaining.0,
        ),
        subst AreBuilt
            (sym out.4) remaining.1,
      )
