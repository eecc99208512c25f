use Rattle.std.proofs.Common.{◌≡◌, drop}
use Rattle.gix_object.specs.Stores.{named}
use Rattle.gixobj_examples_edits.specs.Shelves.{listed_objects, shelf_objects}
use Rattle.gixobj_examples_edits.proofs.shelf.Shelf.first.Given as goal

abbrev pub invariant-loop-at : goal.invariant-loop-at
invariant-loop-at l = named (listed_objects (drop l.at-index l.at-items)) l.id ≡ named (shelf_objects l.fn.self) l.id
