use Rattle.std.proofs.Common.{◌≡◌, ◌++◌, drop, take}
use Rattle.std.specs.List.{flat_map}
use Rattle.std.specs.declared.alloc.Global.{Global}
use Rattle.std.specs.declared.vec.Vec.{Vec}
use Rattle.gixobj_editor_entries.specs.Pieces.{AreNonEmpty}
use Rattle.gixobj_editor_write.specs.Moves.{moved_on, moved_out}
use Rattle.gixobj_editor_open.specs.Nested.{parts}
use Rattle.gixobj_editor_open.specs.declared.open.Child.{Child}
use Rattle.gixobj_editor_write.proofs.moving.move_on_in_pieces.Given as goal

-- the directories so far, followed by what becomes of the others, are all
abbrev pub invariant-loop-piece : goal.invariant-loop-piece
invariant-loop-piece l = record {
  moved : parts (flat_map (λ (p : Vec Child Global). p.items) (take l.piece-index l.pieces))
      ++ moved_on l.next (parts (flat_map (λ (p : Vec Child Global). p.items) (drop l.piece-index l.pieces)))
      ≡ moved_on l.fn.first (parts (flat_map (λ (p : Vec Child Global). p.items) l.fn.pieces));
  last : moved_out l.next (parts (flat_map (λ (p : Vec Child Global). p.items) (drop l.piece-index l.pieces)))
      ≡ moved_out l.fn.first (parts (flat_map (λ (p : Vec Child Global). p.items) l.fn.pieces));
  filled : AreNonEmpty (λ (p : Vec Child Global). p.items) l.fn.pieces → AreNonEmpty (λ (p : Vec Child Global). p.items) l.pieces;
}
