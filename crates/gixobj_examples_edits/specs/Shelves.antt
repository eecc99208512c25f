-- The model of a shelf as a store.
use Rattle.std.specs.Prelude.{List, map}
use Rattle.std.specs.FinMap as finite
use Rattle.gix_object.specs.Stores.{Objects, stored}
use Rattle.gix_object.specs.hash.hash.object_id.ObjectId.{ObjectId}
use Rattle.gix_object.specs.store.«data».Data.{Data}
use Rattle.gixobj_examples_edits.specs.declared.shelf.Shelf.{Shelf}

-- the objects by their ids; the first object of an id counts
abbrev pub listed_objects : List (ObjectId × Data) → Objects
listed_objects objects = finite.from_entries (map (λ pair. (pair.0, stored pair.1)) objects)

-- the objects on the shelf, by their ids
abbrev pub shelf_objects : Shelf → Objects
shelf_objects shelf = listed_objects shelf.objects.now
