-- The model of the store in memory.
use Rattle.std.specs.Prelude.{◌≡◌, ◌≤◌, ℕ, List, Option, codes, length, map, ⊤}
use Rattle.std.specs.FinMap as finite
use Rattle.std.specs.Io.KnownBytes.{Consumes}
use Rattle.bstr.specs.Owned.{bstring_bytes}
use Rattle.gixobj_store.specs.Stores.{Objects, StoredObject}
use Rattle.gixobj_encode.specs.StreamHash.{IsStreamError}
use Rattle.gixobj_streams.specs.Writing.{RejectedValue, IsEncodingError}
use Rattle.gixobj_streams.specs.declared.encode.Error.{Error}
use Rattle.gixobj_streams.specs.declared.encode.Error.TheVariants.{OutOfMemory, Writer}
use Rattle.gixobj_store_keep.specs.declared.keeping.KeepError.{KeepError}
use Rattle.gixobj_store_keep.specs.declared.keeping.KeepError.TheVariants as keep
use Rattle.gixobj_hash.specs.declared.hash.object_id.ObjectId.{ObjectId}
use Rattle.gixobj_store_keep.specs.declared.memory.Memory.{Memory}
use Rattle.gixobj_store_keep.specs.declared.memory.ids.MemoryIds.{MemoryIds}
use Rattle.gixobj_store_keep.specs.declared.memory.Stored.{Stored}
use Rattle.gixobj_store_keep.specs.declared.write.Error as written
use Rattle.gixobj_store_keep.specs.declared.write.Error.TheVariants as write
use Rattle.gixobj_tree_entries.specs.Entries.{EntryView}
use Rattle.gixobj_tree.specs.TreeEncoding.{IsUnencodableTree}

-- the stored object of a kept object
abbrev pub stored_object : Stored → StoredObject
stored_object it = record { kind = it.kind; object_hash = it.object_hash; bytes = it.bytes.items }

-- the kept objects, by id
abbrev pub memory_objects : Memory → Objects
memory_objects store = finite.from_entries (map (λ pair. (pair.0, stored_object pair.1)) store.objects.entries)

-- the error rejects a value of the object; it is no failure of a writer and not out of memory
abbrev pub IsForAValue : Error → Type 0
IsForAValue (Writer cause) = ⊥
IsForAValue OutOfMemory = ⊥
IsForAValue other = ⊤

-- the error for a tree that cannot be encoded has this message; or out of memory
abbrev pub IsUnwritten : Type 0 → KeepError → Type 0
IsUnwritten Rejected (keep.Store message) = Rejected × (bstring_bytes message ≡ codes "a file name with a zero byte")
IsUnwritten Rejected keep.OutOfMemory = ⊤

-- the error of keeping a tree in memory: a name has a zero byte; or out of memory
abbrev pub IsMemoryKeepError : List EntryView → KeepError → Type 0
IsMemoryKeepError entries error = IsUnwritten (IsUnencodableTree entries) error

-- ---- ids and writes

-- the ids that an iterator over a store in memory has yet to yield
abbrev pub remaining_ids : MemoryIds → List ObjectId
remaining_ids ids = ids.keys

-- the error of writing an object to memory: it is not encoded to an empty list; or out of memory
abbrev pub IsMemoryWriteError : (RejectedValue → List ℕ → Type 0) → List ℕ → written.Error → Type 0
IsMemoryWriteError Rejects content (write.Encode cause) = IsEncodingError Rejects content cause
IsMemoryWriteError Rejects content write.OutOfMemory = ⊤
IsMemoryWriteError Rejects content (write.Read cause) = ⊥
IsMemoryWriteError Rejects content (write.Store message) = ⊥

-- at most `count` bytes were read
pub record ReadsUpTo (before after : Option (List ℕ)) (count : ℕ) : Type 0 where
  pub bytes : List ℕ
  pub consumed : Consumes before after bytes
  pub bounded : length bytes ≤ count

-- the error of reading the content of an object: that of the stream; or out of memory, after at most `size` bytes
abbrev pub IsContentError : Type 0 → Option (List ℕ) → Option (List ℕ) → ℕ → written.Error → Type 0
IsContentError may_fail before after size (write.Read cause) = IsStreamError may_fail before after size cause
IsContentError may_fail before after size write.OutOfMemory = ReadsUpTo before after size
IsContentError may_fail before after size (write.Encode cause) = ⊥
IsContentError may_fail before after size (write.Store message) = ⊥
