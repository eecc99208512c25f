-- If each open directory is well-formed, each emitted tree may be stored.
use Rattle.std.proofs.Common.{ℕ, List, [], ◌∷◌}
use Rattle.std.specs.List.{AllByRecursion}
use Rattle.gixobj_tree_entries.specs.Entries.{EntryView, Pair}
use Rattle.gixobj_editor_files.specs.Emission.{EmitsBelow, EmitsEntries, left_out_if_empty, end, of_entries, unopened, unchanged, written}
use Rattle.gixobj_editor_files.specs.Opening.{Dirs, in_dir}
use Rattle.gixobj_editor_files.proofs.StillOpened.{AreFormed}
use Rattle.gixobj_editor_entries.proofs.Sublists.{all_append}
use Rattle.gixobj_editor_write.specs.Calls.{IsStorable}
use Rattle.gixobj_editor_write.proofs.Emitting.{written_is_storable}

abbrev pub AreStorable : List Pair → Type 0
AreStorable pairs = AllByRecursion (λ pair. IsStorable pair.1) pairs

mutual
  pub emits_below_storable : (dirs bases : Dirs) (ps : List Pair) (written_tree : List EntryView) (n : ℕ) → EmitsBelow dirs bases ps written_tree n
      → AreFormed dirs
      → AreStorable ps
      × IsStorable written_tree
  emits_below_storable dirs bases ps written_tree n (of_entries d b es ps' written_tree' m is walk) formed =
      (walk_pairs dirs bases es ps written_tree n walk formed, written_is_storable dirs bases es ps written_tree n walk (formed [] es is))

  walk_pairs : (dirs bases : Dirs) (es : List EntryView) (ps : List Pair) (written_tree : List EntryView) (n : ℕ)
      → EmitsEntries dirs bases es ps written_tree n → AreFormed dirs
      → AreStorable ps
  walk_pairs dirs bases es ps written_tree n (end d b) formed = tt
  walk_pairs dirs bases es ps written_tree n (unopened d b e rest below os m none walk) formed = walk_pairs d b rest below os m walk formed
  walk_pairs dirs bases es ps written_tree n (left_out_if_empty d b e rest inner below os i m found walk) formed =
      all_append (λ pair. IsStorable pair.1) inner below
      (emits_below_storable (in_dir e.name d) (in_dir e.name b) inner [] i found (λ path. formed (e.name ∷ path))).0
      (walk_pairs d b rest below os m walk formed)
  walk_pairs dirs bases es ps written_tree n (unchanged d b e first rest more_written inner below os i m found same walk) formed =
      all_append (λ pair. IsStorable pair.1) inner below (emits_below_storable (in_dir e.name d) (in_dir e.name b) inner (first ∷ more_written) i found
      (λ path. formed (e.name ∷ path))).0 (walk_pairs d b rest below os m walk formed)
  walk_pairs dirs bases es ps written_tree n (written d b e first rest more_written inner below os i m id found changed walk) formed =
      let lower = emits_below_storable (in_dir e.name d) (in_dir e.name b) inner (first ∷ more_written) i found (λ path. formed (e.name ∷ path)) in
      all_append (λ pair. IsStorable pair.1) inner ((id, first ∷ more_written) ∷ below) lower.0 (lower.1, walk_pairs d b rest below os m walk formed)
