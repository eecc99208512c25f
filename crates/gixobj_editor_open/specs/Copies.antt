-- Copies of open directories that are begun.
use Rattle.std.specs.Prelude.{◌≡◌, List, ◌++◌}
use Rattle.std.specs.declared.alloc.Global.{Global}
use Rattle.std.specs.declared.vec.Vec.{Vec}
use Rattle.gixobj_editor_entries.specs.Pieces.{AreNonEmpty}
use Rattle.gixobj_editor_open.specs.Nested.{IsLevel, Opened, Part, opened, parts}
use Rattle.gixobj_editor_open.specs.declared.copying.Copying.{Copying}
use Rattle.gixobj_editor_open.specs.declared.open.Child.{Child}

-- the copy of this directory is begun; after those that are copied, these directories are open in it
pub record IsCopiedInPart (f : Copying) (others : List Part) (node : Opened) : Type 0 where
  pub view : opened f.entries f.base (parts f.copies.items ++ others) ≡ node
  pub level : IsLevel f.entries (parts f.copies.items ++ others)
  pub filled : AreNonEmpty (λ (p : Vec Child Global). p.items) f.remaining.more.now
