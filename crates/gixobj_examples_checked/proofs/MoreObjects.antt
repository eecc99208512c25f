-- One more object that git takes.
use Rattle.std.proofs.Common.{◌≡◌, ◌∙◌, Bool, true, false, Some, None, List, ℕ, cond, refl, subst, sym}
use Rattle.std.specs.FinMap as map
use Rattle.std.specs.Prelude.{Option}
use Rattle.std.specs.Ordering.{eq_by_cmp}
use Rattle.gixobj_hash.specs.Hash.Order.{id_cmp}
use Rattle.gixobj_hash.specs.Hash.OrderLaws.{id_cmp_total}
use Rattle.gixobj_hash.specs.declared.hash.object_id.ObjectId.{ObjectId}
use Rattle.gixobj_store.specs.Stores.{Names, Objects, StoredObject, named}
use Rattle.gixobj_examples_checked.specs.Stores.{AreReceived, IsTaken}

of_cond : (test : Bool) (new it : StoredObject) (old : Option StoredObject) → cond test (Some new) old ≡ Some it → IsTaken new
    → (old ≡ Some it → IsTaken it) → IsTaken it
of_cond true new it old is taken others = let same : new ≡ it = cc is in let P : StoredObject → Type 0 = IsTaken in subst P same taken
of_cond false new it old is taken others = others is

-- no object is in a store without objects
pub none_received : (objects : Objects) → objects ≡ map.empty → AreReceived objects
none_received objects empty id it names =
    let P : Objects → Type 0 = λ all. named all id ≡ Some it in
    let none : None ≡ Some it = sym (map.get-empty id_cmp id) ∙ subst P empty names in
    absurd (let it : ⊥ = cc in it)

-- git takes each object of a store with one more that it takes
pub received_with_more : (before after : Objects) (id : ObjectId) (new : StoredObject) → AreReceived before → IsTaken new
    → after ≡ map.insert before id new → AreReceived after
received_with_more before after id new received taken inserted other it names =
    let P : Objects → Type 0 = λ all. named all other ≡ Some it in
    let found : cond (eq_by_cmp id_cmp other id) (Some new) (named before other) ≡ Some it =
    sym (map.get-insert id_cmp_total before id new other) ∙ subst P inserted names in
    of_cond (eq_by_cmp id_cmp other id) new it (named before other) found taken (received other it)

-- a store with the same objects
pub received_of_same : (before after : Objects) → after ≡ before → AreReceived before → AreReceived after
received_of_same before after same received = let P : Objects → Type 0 = AreReceived in subst P (sym same) received
