-- Stores of objects that git takes (git-config, `receive.fsckObjects`).
use Rattle.std.specs.Prelude.{ℕ, List, ⊤}
use Rattle.gixobj_examples_checked.specs.declared.received.ReceiveError.{ReceiveError}
use Rattle.gixobj_examples_checked.specs.declared.received.ReceiveError.TheVariants as receive
use Rattle.gixobj_fsck_objects.specs.Objects.{IsReceivedObject}
use Rattle.gixobj_hash.specs.declared.hash.kind.Kind as hash
use Rattle.gixobj_hash.specs.declared.hash.object_id.ObjectId.{ObjectId}
use Rattle.gixobj_hash.specs.declared.kind.Kind.{Kind}
use Rattle.gixobj_store.specs.Stores.{Names, Objects, StoredObject}

-- git takes this object
abbrev pub IsTaken : StoredObject → Type 0
IsTaken it = IsReceivedObject it.kind it.object_hash it.bytes

-- git takes each object
abbrev pub AreReceived : Objects → Type 0
AreReceived objects = (id : ObjectId) (it : StoredObject) → Names objects id it
    → IsTaken it

-- git rejects the object; or out of memory
abbrev pub IsReceiveError : Kind → hash.Kind → List ℕ → ReceiveError → Type 0
IsReceiveError kind object_hash content receive.Rejected = ¬ IsReceivedObject kind object_hash content
IsReceiveError kind object_hash content receive.OutOfMemory = ⊤
