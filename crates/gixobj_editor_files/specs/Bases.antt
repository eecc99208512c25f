-- The base of each open directory but the root: the tree that its entry's id named when it was opened. The base of the
-- root is ignored.
use Rattle.std.specs.Prelude.{◌≡◌, true, IsFalse, List, [], ◌∷◌, ◌++◌, Option, Some, None}
use Rattle.gixobj_tree_entries.specs.Entries.{EntryView}
use Rattle.gixobj_editor_files.specs.Files.{Path, Table, is_null}
use Rattle.gixobj_editor_files.specs.Opening.{Dirs, HasAt, IsOpened}

-- the base of a directory after an opening: unchanged if the directory was open, and else the list found, if there is
-- one
abbrev pub base_opened : Option (List EntryView) → Option (List EntryView) → Option (List EntryView)
    → Option (List EntryView)
base_opened None found base = found
base_opened (Some entries) found base = base

-- the bases after directories were opened; each of these has the list that was found as its base
abbrev pub opened_bases : Dirs → Dirs → Dirs → Dirs
opened_bases old new bases = λ at. base_opened (old at) (new at) (bases at)

-- the base of a directory after an edit: none if it is no longer open, empty if the edit created it, and else unchanged
abbrev pub base_edited : Option (List EntryView) → Option (List EntryView) → Option (List EntryView)
    → Option (List EntryView)
base_edited old None base = None
base_edited None (Some entries) base = Some []
base_edited (Some was) (Some entries) base = base

-- the bases after directories were created, edited and closed
abbrev pub edited_bases : Dirs → Dirs → Dirs → Dirs
edited_bases old new bases = λ at. base_edited (old at) (new at) (bases at)

-- the table has each base by the id of its directory's entry, if that id isn't null
abbrev pub HasBases : Table → Dirs → Dirs → Type 0
HasBases T dirs bases =
    (path : Path) (e : EntryView) (base : List EntryView) → HasAt (dirs path) e
    → bases (path ++ e.name ∷ []) ≡ Some base
    → IsFalse (is_null e.id) → T.tree_at e.id ≡ Some base

-- the base of a directory with the null id is empty, since that id names nothing
abbrev pub AreNullBased : Dirs → Dirs → Type 0
AreNullBased dirs bases =
    (path : Path) (e : EntryView) (base : List EntryView) → HasAt (dirs path) e
    → bases (path ++ e.name ∷ []) ≡ Some base
    → is_null e.id ≡ true → base ≡ []

-- the invariant of open directories and their bases, which every editor keeps
pub record AreOpenedOn (dirs bases : Dirs) : Type 0 where
  pub opened : IsOpened dirs
  pub null_based : AreNullBased dirs bases
