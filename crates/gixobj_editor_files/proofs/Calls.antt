-- The bases after each call agree with tables, and those of null ids are empty: for the editor's proofs of each call.
use Rattle.std.proofs.Common.{◌≡◌, ◌≢◌, ◌∙◌, ℕ, true, List, [], ◌∷◌, ◌++◌, refl, sym, subst, Some, None}
use Rattle.std.specs.FinMap as map
use Rattle.gixobj_tree_entries.specs.Entries.{EntryView}
use Rattle.gixobj_hash.specs.Hash.{null_id}
use Rattle.gixobj_hash.specs.declared.hash.kind.Kind.{Kind}
use Rattle.gixobj_hash.specs.declared.hash.kind.Kind.TheVariants as hash
use Rattle.gixobj_hash.specs.declared.hash.object_id.ObjectId.{ObjectId}
use Rattle.gixobj_editor_files.specs.Edits.{IsNoTree, Opens, ensured_dirs, only_open, removed_dirs, upserted_dirs, with_path}
use Rattle.gixobj_editor_files.specs.Files.{ContainsEntry, Path, Table, Trees, is_null}
use Rattle.gixobj_editor_files.specs.Opening.{Dirs, IsOpened}
use Rattle.gixobj_editor_files.specs.State.{root_alone}
use Rattle.gixobj_editor_files.specs.Tables.{AgreesWithStore}
use Rattle.gixobj_editor_files.proofs.Based.{Based, NullBased, are_null_based_of_everywhere, based_is_lasting, everywhere_based, has_bases_of_everywhere}
use Rattle.gixobj_editor_files.proofs.Based.{null_based_is_lasting, everywhere_null_based}
use Rattle.gixobj_editor_files.proofs.EditedFiles.{root_alone_below_root}
use Rattle.gixobj_editor_files.proofs.Everywhere.{Everywhere, Lasts, OfEntry, everywhere_opened}
use Rattle.gixobj_editor_files.proofs.LastingProperties.{lasts_ensured, lasts_removed, lasts_upserted, lasts_written}
use Rattle.gixobj_editor_files.specs.Bases.{AreNullBased, AreOpenedOn, HasBases, edited_bases, opened_bases}

pub null_id_is_null : (kind : Kind) → is_null (null_id kind) ≡ true
null_id_is_null hash.Sha1 = refl
null_id_is_null hash.Sha256 = refl

-- a property of all entries depends on the directories and bases at each path alone
everywhere_congruent : (P : OfEntry) (dirs bases new remaining : Dirs) → ((at : Path) → new at ≡ dirs at) → ((at : Path) → remaining at ≡ bases at)
    → Everywhere P dirs bases
    → Everywhere P new remaining
everywhere_congruent P dirs bases new remaining same same_bases all = subst (λ (b : Dirs). Everywhere P new b) (sym (λ i at. same_bases at i))
    (subst (λ (d : Dirs). Everywhere P d bases) (sym (λ i at. same at i)) all)

-- if the root alone is open, no base is below it
no_base_at_snoc : (bases : Dirs) → ((name : List ℕ) (path : Path) → bases (name ∷ path) ≡ None) → (base : List EntryView) (path : Path) (name : List ℕ)
    → bases (path ++ name ∷ []) ≡ Some base → ⊥
no_base_at_snoc bases none base [] name is = let bad : None ≡ Some base = sym (none name []) ∙ is in cc bad
no_base_at_snoc bases none base (first ∷ path) name is = let bad : None ≡ Some base = sym (none first (path ++ name ∷ [])) ∙ is in cc bad

pub has_bases_of_none : (T : Table) (dirs bases : Dirs) → ((name : List ℕ) (path : Path) → bases (name ∷ path) ≡ None) → HasBases T dirs bases
has_bases_of_none T dirs bases none path e base has is filled = absurd (no_base_at_snoc bases none base path e.name is)

pub are_null_based_of_none : (dirs bases : Dirs) → ((name : List ℕ) (path : Path) → bases (name ∷ path) ≡ None) → AreNullBased dirs bases
are_null_based_of_none dirs bases none path e base has is null = absurd (no_base_at_snoc bases none base path e.name is)

pub root_alone_has_bases : (T : Table) (dirs : Dirs) → HasBases T dirs (λ path. map.get (root_alone []) path)
root_alone_has_bases T dirs = has_bases_of_none T dirs (λ path. map.get (root_alone []) path) (λ name path. root_alone_below_root [] name path)

-- a property that lasts holds after each call
module _ (P : OfEntry) (trees : Trees) (kind : Kind) (lasts : Lasts P trees (null_id kind)) (old bases new remaining : Dirs) (is_opened : IsOpened old)
    (all : Everywhere P old bases) where
  -- the bases after directories were opened, and then edited
  abbrev Left : Dirs → Type 0
  Left opened = (at : Path) → remaining at ≡ edited_bases opened new (opened_bases old opened bases) at

  edited_so : (opened made : Dirs) → ((at : Path) → new at ≡ made at) → Left opened
      → Everywhere P made (edited_bases opened made (opened_bases old opened bases)) → Everywhere P new remaining
  edited_so opened made dirs_are bases_are holds =
      let remaining_is : (at : Path) → remaining at ≡ edited_bases opened made (opened_bases old opened bases) at =
      subst (λ (d : Dirs). (at : Path) → remaining at ≡ edited_bases opened d (opened_bases old opened bases) at) (λ i at. dirs_are at i) bases_are in
      everywhere_congruent P made (edited_bases opened made (opened_bases old opened bases)) new remaining dirs_are remaining_is holds

  after_upsert : (head : Path) (last : List ℕ) (mode : ℕ) (id : ObjectId) (opened : Dirs) (looked_up : List ObjectId)
      → Opens IsNoTree trees head old opened looked_up
      → ((name : List ℕ) → P (record { mode = mode; name = name; id = id }) None None)
      → ((at : Path) → new at ≡ upserted_dirs (head ++ last ∷ []) mode id (null_id kind) opened at) → Left opened → Everywhere P new remaining
  after_upsert head last mode id opened looked_up opens insert_entry dirs_are bases_are =
      edited_so opened (upserted_dirs (head ++ last ∷ []) mode id (null_id kind) opened) dirs_are bases_are
      (lasts_upserted P trees (null_id kind) lasts old bases is_opened all head last mode id opened looked_up opens insert_entry)

  after_assuring : (path : Path) (opened : Dirs) (looked_up : List ObjectId) → Opens IsNoTree trees path old opened looked_up
      → ((at : Path) → new at ≡ ensured_dirs path (null_id kind) opened at) → Left opened → Everywhere P new remaining
  after_assuring path opened looked_up opens dirs_are bases_are =
      edited_so opened (ensured_dirs path (null_id kind) opened) dirs_are bases_are
      (lasts_ensured P trees (null_id kind) lasts old bases is_opened all path opened looked_up opens)

  after_removal : {StopsBefore : EntryView → Type 0} (head path : Path) (opened : Dirs) (looked_up : List ObjectId)
      → Opens StopsBefore trees head old opened looked_up
      → ((at : Path) → new at ≡ removed_dirs path opened at) → Left opened → Everywhere P new remaining
  after_removal head path opened looked_up opens dirs_are bases_are =
      edited_so opened (removed_dirs path opened) dirs_are bases_are
      (lasts_removed P trees (null_id kind) lasts old bases is_opened all head path opened looked_up opens)

  after_opening : {StopsBefore : EntryView → Type 0} (path : Path) (looked_up : List ObjectId) → Opens StopsBefore trees path old new looked_up
      → ((at : Path) → remaining at ≡ opened_bases old new bases at) → Everywhere P new remaining
  after_opening path looked_up opens bases_are =
      everywhere_congruent P new (opened_bases old new bases) new remaining (λ at. refl) bases_are
      (everywhere_opened P trees (null_id kind) lasts path old new looked_up opens bases all)

  after_write : (prefix : Path) (written_tree : List EntryView) → old prefix ≢ None → ((e : EntryView) → ContainsEntry written_tree e → P e None None)
      → ((at : Path) → new at ≡ with_path prefix (only_open written_tree) old at) → ((at : Path) → remaining at ≡ edited_bases old new bases at)
      → Everywhere P new remaining
  after_write prefix written_tree there each dirs_are bases_are =
      let made : Dirs = with_path prefix (only_open written_tree) old in
      let remaining_is : (at : Path) → remaining at ≡ edited_bases old made bases at =
      subst (λ (d : Dirs). (at : Path) → remaining at ≡ edited_bases old d bases at) (λ i at. dirs_are at i) bases_are in
      everywhere_congruent P made (edited_bases old made bases) new remaining dirs_are remaining_is
      (lasts_written P trees (null_id kind) lasts old bases is_opened all prefix written_tree there each)

-- each base agrees with every table that agrees with the store
module _ (T : Table) (trees : Trees) (kind : Kind) (old bases new remaining : Dirs) (was : AreOpenedOn old bases) (agrees : AgreesWithStore T trees)
    (has : HasBases T old bases) where
  all : Everywhere (Based T) old bases
  all = everywhere_based T old bases was.null_based has

  lasting : Lasts (Based T) trees (null_id kind)
  lasting = based_is_lasting T trees (null_id kind) agrees (null_id_is_null kind)

  pub upserted_based : (head : Path) (last : List ℕ) (mode : ℕ) (id : ObjectId) (opened : Dirs) (looked_up : List ObjectId)
      → Opens IsNoTree trees head old opened looked_up
      → ((at : Path) → new at ≡ upserted_dirs (head ++ last ∷ []) mode id (null_id kind) opened at)
      → ((at : Path) → remaining at ≡ edited_bases opened new (opened_bases old opened bases) at) → HasBases T new remaining
  upserted_based head last mode id opened looked_up opens dirs_are bases_are =
      has_bases_of_everywhere T new remaining (after_upsert (Based T) trees kind lasting old bases new remaining was.opened all head last mode id opened
      looked_up opens
      (λ name list is. absurd (cc is)) dirs_are bases_are)

  pub ensured_based : (path : Path) (opened : Dirs) (looked_up : List ObjectId) → Opens IsNoTree trees path old opened looked_up
      → ((at : Path) → new at ≡ ensured_dirs path (null_id kind) opened at)
      → ((at : Path) → remaining at ≡ edited_bases opened new (opened_bases old opened bases) at) → HasBases T new remaining
  ensured_based path opened looked_up opens dirs_are bases_are =
      has_bases_of_everywhere T new remaining
      (after_assuring (Based T) trees kind lasting old bases new remaining was.opened all path opened looked_up opens dirs_are bases_are)

  pub removed_based : {StopsBefore : EntryView → Type 0} (head path : Path) (opened : Dirs) (looked_up : List ObjectId)
      → Opens StopsBefore trees head old opened looked_up
      → ((at : Path) → new at ≡ removed_dirs path opened at)
      → ((at : Path) → remaining at ≡ edited_bases opened new (opened_bases old opened bases) at) → HasBases T new remaining
  removed_based head path opened looked_up opens dirs_are bases_are =
      has_bases_of_everywhere T new remaining
      (after_removal (Based T) trees kind lasting old bases new remaining was.opened all head path opened looked_up opens dirs_are bases_are)

  pub opened_based : {StopsBefore : EntryView → Type 0} (path : Path) (looked_up : List ObjectId) → Opens StopsBefore trees path old new looked_up
      → ((at : Path) → remaining at ≡ opened_bases old new bases at) → HasBases T new remaining
  opened_based path looked_up opens bases_are =
      has_bases_of_everywhere T new remaining (after_opening (Based T) trees kind lasting old bases new remaining was.opened all path looked_up opens bases_are)

-- a null id has an empty base after each call, without a table
module _ (trees : Trees) (kind : Kind) (old bases new remaining : Dirs) (was : AreOpenedOn old bases) where
  nulls : Everywhere NullBased old bases
  nulls = everywhere_null_based old bases was.null_based

  pub upserted_null_based : (head : Path) (last : List ℕ) (mode : ℕ) (id : ObjectId) (opened : Dirs) (looked_up : List ObjectId)
      → Opens IsNoTree trees head old opened looked_up
      → ((at : Path) → new at ≡ upserted_dirs (head ++ last ∷ []) mode id (null_id kind) opened at)
      → ((at : Path) → remaining at ≡ edited_bases opened new (opened_bases old opened bases) at) → AreNullBased new remaining
  upserted_null_based head last mode id opened looked_up opens dirs_are bases_are =
      are_null_based_of_everywhere new remaining
      (after_upsert NullBased trees kind (null_based_is_lasting trees (null_id kind)) old bases new remaining was.opened nulls head last mode id opened
      looked_up
      opens (λ name list is. absurd (cc is)) dirs_are bases_are)

  pub ensured_null_based : (path : Path) (opened : Dirs) (looked_up : List ObjectId) → Opens IsNoTree trees path old opened looked_up
      → ((at : Path) → new at ≡ ensured_dirs path (null_id kind) opened at)
      → ((at : Path) → remaining at ≡ edited_bases opened new (opened_bases old opened bases) at) → AreNullBased new remaining
  ensured_null_based path opened looked_up opens dirs_are bases_are =
      are_null_based_of_everywhere new remaining
      (after_assuring NullBased trees kind (null_based_is_lasting trees (null_id kind)) old bases new remaining was.opened nulls path opened looked_up opens
      dirs_are bases_are)

  pub removed_null_based : {StopsBefore : EntryView → Type 0} (head path : Path) (opened : Dirs) (looked_up : List ObjectId)
      → Opens StopsBefore trees head old opened looked_up
      → ((at : Path) → new at ≡ removed_dirs path opened at)
      → ((at : Path) → remaining at ≡ edited_bases opened new (opened_bases old opened bases) at) → AreNullBased new remaining
  removed_null_based head path opened looked_up opens dirs_are bases_are =
      are_null_based_of_everywhere new remaining
      (after_removal NullBased trees kind (null_based_is_lasting trees (null_id kind)) old bases new remaining was.opened nulls head path opened looked_up opens
      dirs_are bases_are)

  pub opened_null_based : {StopsBefore : EntryView → Type 0} (path : Path) (looked_up : List ObjectId) → Opens StopsBefore trees path old new looked_up
      → ((at : Path) → remaining at ≡ opened_bases old new bases at) → AreNullBased new remaining
  opened_null_based path looked_up opens bases_are =
      are_null_based_of_everywhere new remaining
      (after_opening NullBased trees kind (null_based_is_lasting trees (null_id kind)) old bases new remaining was.opened nulls path looked_up opens bases_are)

-- a write at a prefix needs no store
abbrev no_trees : Trees
no_trees = λ id. None

module _ (old bases new remaining : Dirs) (was : AreOpenedOn old bases) (prefix : Path) (written_tree : List EntryView) (there : old prefix ≢ None)
    (dirs_are : (at : Path) → new at ≡ with_path prefix (only_open written_tree) old at) (bases_are : (at : Path)
    → remaining at ≡ edited_bases old new bases at) where
  pub written_based : (T : Table) → HasBases T old bases → HasBases T new remaining
  written_based T has =
      let lasting : Lasts (Based T) no_trees (null_id hash.Sha1) = based_is_lasting T no_trees (null_id hash.Sha1)
      (λ id entries searched is. absurd (cc is)) refl in
      has_bases_of_everywhere T new remaining
      (after_write (Based T) no_trees hash.Sha1 lasting old bases new remaining was.opened
      (everywhere_based T old bases was.null_based has) prefix written_tree there
      (λ e h list is. absurd (cc is)) dirs_are bases_are)

  pub written_null_based : AreNullBased new remaining
  written_null_based =
      are_null_based_of_everywhere new remaining (after_write NullBased no_trees hash.Sha1
      (null_based_is_lasting no_trees (null_id hash.Sha1)) old bases new remaining was.opened
      (everywhere_null_based old bases was.null_based) prefix written_tree there (λ e h list is. absurd (cc is)) dirs_are bases_are)
