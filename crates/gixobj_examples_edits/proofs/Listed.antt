-- The model of a list of objects, from one of them on.
use Rattle.std.proofs.Common.{◌≡◌, ◌≢◌, ◌+◌, ◌<◌, ℕ, List, [], Some, ap, drop, length, slice_index_or, sym, ◌∙◌}
use Rattle.std.proofs.lemmas.List.{drop_more}
use Rattle.std.specs.FinMap as finite
use Rattle.std.specs.Prelude.{Option}
use Rattle.gix_object.specs.Stores.{Objects, StoredObject, named, stored}
use Rattle.gix_object.specs.hash.hash.kind.Kind.TheVariants as hash
use Rattle.gix_object.specs.hash.hash.object_id.ObjectId.{ObjectId}
use Rattle.gix_object.specs.hash.hash.object_id.ObjectId.TheVariants.{Sha1}
use Rattle.gix_object.specs.hash.kind.Kind.TheVariants as kind
use Rattle.gix_object.specs.store.«data».Data.{Data}
use Rattle.gixobj_examples_edits.specs.Shelves.{listed_objects}

-- the pair of an index out of bounds
abbrev pub no_pair : ObjectId × Data
no_pair = (Sha1 [], record { kind = kind.Tree; object_hash = hash.Sha1; bytes = record { ref_ptr = (0, 0); now = [] } })

-- the object at this index is named from here on
pub listed_objects_head : ((objects : Objects) (id : ObjectId) (it : StoredObject) → named (finite.insert objects id it) id ≡ Some it)
    → (pairs : List (ObjectId × Data)) (i : ℕ) (id : ObjectId) (all : Option StoredObject) → i < length pairs → (slice_index_or pairs i no_pair).0 ≡ id
    → named (listed_objects (drop i pairs)) id ≡ all → Some (stored (slice_index_or pairs i no_pair).1) ≡ all
listed_objects_head there pairs i id all less same is =
    let pair = slice_index_or pairs i no_pair in
    sym (there (listed_objects (drop (i + 1) pairs)) pair.0 (stored pair.1))
    ∙ sym (ap (λ (it : List (ObjectId × Data)). named (listed_objects it) pair.0) (drop_more pairs i no_pair less))
    ∙ ap (named (listed_objects (drop i pairs))) same ∙ is

-- without an object of another id the same object is named
pub listed_objects_tail : ((objects : Objects) (id other : ObjectId) (it : StoredObject) → other ≢ id
    → named (finite.insert objects id it) other ≡ named objects other)
    → (pairs : List (ObjectId × Data)) (i : ℕ) (id : ObjectId) (all : Option StoredObject) → i < length pairs
    → (slice_index_or pairs i no_pair).0 ≢ id → named (listed_objects (drop i pairs)) id ≡ all → named (listed_objects (drop (i + 1) pairs)) id ≡ all
listed_objects_tail elsewhere pairs i id all less other is =
    let pair = slice_index_or pairs i no_pair in
    sym (elsewhere (listed_objects (drop (i + 1) pairs)) pair.0 id (stored pair.1) (λ same. other (sym same)))
    ∙ sym (ap (λ (it : List (ObjectId × Data)). named (listed_objects it) id) (drop_more pairs i no_pair less)) ∙ is
