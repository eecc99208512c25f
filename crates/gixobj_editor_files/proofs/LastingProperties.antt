-- A property of each entry of the open directories holds after each call.
use Rattle.std.proofs.Common.{◌≢◌, List, [], ◌∷◌, ◌++◌, ℕ, None}
use Rattle.gixobj_tree_entries.specs.Entries.{EntryView}
use Rattle.gixobj_hash.specs.declared.hash.object_id.ObjectId.{ObjectId}
use Rattle.gixobj_editor_files.specs.Edits.{IsNoTree, Opens, ensured_dirs, only_open, removed_dirs, upserted_dirs, with_path}
use Rattle.gixobj_editor_files.specs.Files.{ContainsEntry, Path, Trees}
use Rattle.gixobj_editor_files.specs.Opening.{Dirs, IsOpened, in_dir, in_path}
use Rattle.gixobj_editor_files.proofs.EnsuredFiles.{is_open_along_of_opens}
use Rattle.gixobj_editor_files.proofs.OpeningFiles.{opens_makes_ready}
use Rattle.gixobj_editor_files.proofs.StillOpenedOpenings.{is_opened_of_opens}
use Rattle.gixobj_editor_files.proofs.Everywhere.{Everywhere, Lasts, OfEntry, everywhere_ensured, everywhere_opened, everywhere_removed, everywhere_upserted}
use Rattle.gixobj_editor_files.proofs.Everywhere.{everywhere_written}
use Rattle.gixobj_editor_files.specs.Bases.{edited_bases, opened_bases}

-- a property of all entries holds below a path
pub everywhere_in_path : (P : OfEntry) (prefix : Path) (dirs bases : Dirs) → Everywhere P dirs bases
    → Everywhere P (in_path prefix dirs) (in_path prefix bases)
everywhere_in_path P [] dirs bases all = all
everywhere_in_path P (name ∷ rest) dirs bases all = everywhere_in_path P rest (in_dir name dirs) (in_dir name bases) (λ q. all (name ∷ q))

-- if the root alone is open, no directory has a base
pub everywhere_of_only : (P : OfEntry) (entries : List EntryView) → ((e : EntryView) → ContainsEntry entries e → P e None None)
    → Everywhere P (only_open entries) (λ _. None)
everywhere_of_only P entries each [] e h = each e h
everywhere_of_only P entries each (name ∷ path) e h = absurd h

module _ (P : OfEntry) (trees : Trees) (null : ObjectId) (lasts : Lasts P trees null) (old bases : Dirs) (is_opened : IsOpened old)
    (all : Everywhere P old bases) where
  -- the bases after directories were opened, and then edited
  abbrev pub after : Dirs → Dirs → Dirs
  after opened new = edited_bases opened new (opened_bases old opened bases)

  pub lasts_upserted : (head : Path) (last : List ℕ) (mode : ℕ) (id : ObjectId) (opened : Dirs) (looked_up : List ObjectId)
      → Opens IsNoTree trees head old opened looked_up
      → ((name : List ℕ) → P (record { mode = mode; name = name; id = id }) None None)
      → Everywhere P (upserted_dirs (head ++ last ∷ []) mode id null opened) (after opened (upserted_dirs (head ++ last ∷ []) mode id null opened))
  lasts_upserted head last mode id opened looked_up opens new =
      everywhere_upserted P trees null lasts (head ++ last ∷ []) mode id opened (opened_bases old opened bases) new
      (opens_makes_ready trees head last old opened looked_up opens)
      ((is_opened_of_opens trees head old opened looked_up opens is_opened).above)
      (everywhere_opened P trees null lasts head old opened looked_up opens bases all)

  pub lasts_ensured : (path : Path) (opened : Dirs) (looked_up : List ObjectId) → Opens IsNoTree trees path old opened looked_up
      → Everywhere P (ensured_dirs path null opened) (after opened (ensured_dirs path null opened))
  lasts_ensured path opened looked_up opens =
      everywhere_ensured P trees null lasts path opened (opened_bases old opened bases) (is_open_along_of_opens trees path old opened looked_up opens)
      ((is_opened_of_opens trees path old opened looked_up opens is_opened).above)
      (everywhere_opened P trees null lasts path old opened looked_up opens bases all)

  pub lasts_removed : {StopsBefore : EntryView → Type 0} (head path : Path) (opened : Dirs) (looked_up : List ObjectId)
      → Opens StopsBefore trees head old opened looked_up
      → Everywhere P (removed_dirs path opened) (after opened (removed_dirs path opened))
  lasts_removed head path opened looked_up opens = everywhere_removed P trees null lasts path opened (opened_bases old opened bases)
      (everywhere_opened P trees null lasts head old opened looked_up opens bases all)

  pub lasts_written : (prefix : Path) (written_tree : List EntryView) → old prefix ≢ None → ((e : EntryView) → ContainsEntry written_tree e → P e None None)
      → Everywhere P (with_path prefix (only_open written_tree) old) (edited_bases old (with_path prefix (only_open written_tree) old) bases)
  lasts_written prefix written_tree there each = everywhere_written P trees null lasts prefix written_tree old bases there each all
