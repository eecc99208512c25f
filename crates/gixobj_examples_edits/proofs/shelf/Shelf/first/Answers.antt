use Rattle.std.proofs.Common.{rules, ◌≡◌, ◌≢◌, ◌<◌, length, slice_index_or}
use Rattle.gix_object.specs.Stores.{named}
use Rattle.gixobj_examples_edits.proofs.Listed.{listed_objects_head, listed_objects_tail, no_pair}
use Rattle.gixobj_examples_edits.specs.Shelves.{shelf_objects}
use Rattle.gixobj_examples_edits.proofs.shelf.Shelf.first.Goals as goal

pub returns-then-eq : goal.returns-then-eq
returns-then-eq c =
    let less : c.loop-at.at-index < length c.args.self.now.objects.now = search rules in
    let same : (slice_index_or c.args.self.now.objects.now c.loop-at.at-index no_pair).0 ≡ c.args.id = search rules in
    listed_objects_head c.object_map_insert.ensures.inserted c.args.self.now.objects.now c.loop-at.at-index c.args.id
    (named (shelf_objects c.args.self.now) c.args.id) less
    same c.loop-at.invariant

pub loop-at-preserved : goal.loop-at-preserved
loop-at-preserved c =
    let less : c.loop-at.at-index < length c.args.self.now.objects.now = search rules in
    let other : (slice_index_or c.args.self.now.objects.now c.loop-at.at-index no_pair).0 ≢ c.args.id = search rules in
    listed_objects_tail c.object_map_insert.ensures.unchanged c.args.self.now.objects.now c.loop-at.at-index c.args.id
    (named (shelf_objects c.args.self.now) c.args.id)
    less other c.loop-at.invariant
