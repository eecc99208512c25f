-- The remaining items are unchanged.
use Rattle.std.proofs.Common.{◌≡◌, ◌++◌, length}
use Rattle.std.specs.List.{flat_map}
use Rattle.gixobj_editor_entries.proofs.iter.ItemsIterator.next.Given as goal

abbrev pub invariant-loop-next : goal.invariant-loop-next
invariant-loop-next g l = record {
  remaining : l.self.piece.now ++ flat_map (λ p. p.items) l.self.rest.now ≡ l.fn.self.piece.now ++ flat_map (λ p. p.items) l.fn.self.rest.now;
}

abbrev pub decreases-loop-next : goal.decreases-loop-next
decreases-loop-next g l = length l.self.rest.now
