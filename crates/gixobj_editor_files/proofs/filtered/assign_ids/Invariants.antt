use Rattle.std.proofs.Common.{◌≡◌, ◌≢◌, ◌++◌, drop, take}
use Rattle.gixobj_tree.specs.WellFormed.{EachLater}
use Rattle.gixobj_editor_files.specs.Editing.{non_null_entries}
use Rattle.gixobj_editor_files.specs.FilteredTrees.{IsFilteredTree}
use Rattle.gixobj_editor_files.proofs.FilteredEntries.{AreFilled}
use Rattle.gixobj_editor_files.proofs.filtered.assign_ids.Given as goal

-- the kept entries and the remaining filtered ones are the filtered list; the remaining entries are unchanged
abbrev pub invariant-loop-entry : goal.invariant-loop-entry
invariant-loop-entry l = record {
  done : non_null_entries (take l.entry-index l.entries) ++ l.pending ≡ l.written_tree;
  apart : EachLater (λ x y. x.name ≢ y.name) (drop l.entry-index l.entries);
  is_filtered : IsFilteredTree l.pending (drop l.entry-index l.entries);
  filled : AreFilled l.pending;
}
