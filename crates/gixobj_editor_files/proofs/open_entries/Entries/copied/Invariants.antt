use Rattle.std.proofs.Common.{◌≡◌, ◌++◌, drop}
use Rattle.std.specs.List.{flat_map}
use Rattle.gixobj_editor_files.proofs.open_entries.Entries.copied.Given as goal

abbrev pub invariant-loop-piece : goal.invariant-loop-piece
invariant-loop-piece l = l.entries.items ++ flat_map (λ p. p.items) (drop l.piece-index l.piece-items) ≡ l.self
