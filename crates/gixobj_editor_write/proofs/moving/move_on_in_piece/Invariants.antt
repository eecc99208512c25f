use Rattle.std.proofs.Common.{◌≡◌, ◌++◌, drop, take}
use Rattle.gixobj_editor_write.specs.Moves.{moved_on, moved_out}
use Rattle.gixobj_editor_open.specs.Nested.{parts}
use Rattle.gixobj_editor_write.proofs.moving.move_on_in_piece.Given as goal

-- the directories so far, followed by what becomes of the others, are all
abbrev pub invariant-loop-child : goal.invariant-loop-child
invariant-loop-child l = record {
  moved : parts (take l.child-index l.children) ++ moved_on l.next (parts (drop l.child-index l.children)) ≡ moved_on l.fn.first (parts l.fn.children);
  last : moved_out l.next (parts (drop l.child-index l.children)) ≡ moved_out l.fn.first (parts l.fn.children);
}
