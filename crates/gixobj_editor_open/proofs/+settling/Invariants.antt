use Rattle.std.proofs.Common.{◌≡◌, ◌+◌, ◌*◌, length}
use Rattle.std.specs.List.{flat_map}
use Rattle.std.specs.declared.alloc.Global.{Global}
use Rattle.std.specs.declared.vec.Vec.{Vec}
use Rattle.gixobj_editor_entries.specs.Pieces.{AreNonEmpty}
use Rattle.gixobj_editor_open.specs.Nested.{below, child_list, parts}
use Rattle.gixobj_editor_open.specs.declared.open.Child.{Child}
use Rattle.gixobj_editor_open.proofs.+settling.Given as goal

abbrev pub decreases-open::Open::settle : goal.decreases-open::Open::settle
decreases-open::Open::settle l = 4 * length l.self.now

abbrev pub decreases-open::Children::settle : goal.decreases-open::Children::settle
decreases-open::Children::settle l = 4 * length (below (parts (child_list l.self.now))) + 3

abbrev pub decreases-leaf_trees::settle_pieces : goal.decreases-leaf_trees::settle_pieces
decreases-leaf_trees::settle_pieces l = 4 * length (below (parts (flat_map (λ (p : Vec Child Global). p.items) l.pieces.now))) + 2

abbrev pub decreases-leaf_trees::settle_all : goal.decreases-leaf_trees::settle_all
decreases-leaf_trees::settle_all l = 4 * length (below (parts l.children.now)) + 1

abbrev pub invariant-leaf_trees::settle_all-loop-child : goal.invariant-leaf_trees::settle_all-loop-child
invariant-leaf_trees::settle_all-loop-child l = parts l.children ≡ parts l.fn.children

abbrev pub invariant-leaf_trees::settle_pieces-loop-piece : goal.invariant-leaf_trees::settle_pieces-loop-piece
invariant-leaf_trees::settle_pieces-loop-piece l = record {
  list : parts (flat_map (λ (p : Vec Child Global). p.items) l.pieces) ≡ parts (flat_map (λ (p : Vec Child Global). p.items) l.fn.pieces);
  filled : AreNonEmpty (λ (p : Vec Child Global). p.items) l.fn.pieces → AreNonEmpty (λ (p : Vec Child Global). p.items) l.pieces;
}
