-- Trees that may be emitted.
use Rattle.std.specs.Prelude.{List, All, IsFalse}
use Rattle.gixobj_tree_entries.specs.Entries.{EntryView}
use Rattle.gixobj_tree.specs.WellFormed.{IsWellFormed}
use Rattle.gixobj_editor_files.specs.Files.{is_null}

-- a tree that may be emitted is well-formed and has no null ids
pub record IsStorable (entries : List EntryView) : Type 0 where
  pub well_formed : IsWellFormed entries
  pub no_nulls : All (λ e. IsFalse (is_null e.id)) entries
