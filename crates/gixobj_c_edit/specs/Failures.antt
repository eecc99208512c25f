-- Why there are no new trees.
use Rattle.std.specs.Prelude.{ℕ, List, None, Option, Some, []}
use Rattle.gixobj_c_codes.specs.Codes.{bad_line, invalid_name, is_directory, malformed, malformed_tree, not_encodable}
use Rattle.gixobj_c_codes.specs.Codes.{not_found, out_of_memory}
use Rattle.gixobj_c_edit.specs.declared.failure.Failure.{Failure}
use Rattle.gixobj_c_edit.specs.declared.failure.Failure.TheVariants as failure
use Rattle.gixobj_editor_lookups.specs.declared.error.Error.{Error}
use Rattle.gixobj_editor_lookups.specs.declared.error.Error.TheVariants as editing
use Rattle.gixobj_streams.specs.declared.encode.Error as encode
use Rattle.gixobj_streams.specs.declared.encode.Error.TheVariants as encode_error
use Rattle.gixobj_hash.specs.declared.decode.Error.TheVariants as decode
use Rattle.gixobj_store_keep.specs.declared.find.existing_object.Error as existing
use Rattle.gixobj_store_keep.specs.declared.find.existing_object.Error.TheVariants as object
use Rattle.gixobj_store_keep.specs.declared.keeping.KeepError.{KeepError}
use Rattle.gixobj_store_keep.specs.declared.keeping.KeepError.TheVariants as keep
use Rattle.gixobj_hash.specs.Hash.{id_bytes}
use Rattle.gixobj_hash.specs.declared.hash.object_id.ObjectId.{ObjectId}
use Rattle.gixobj_store.specs.Stores.{Objects, StoredObject, named}
use Rattle.gixobj_store.specs.declared.find.Error.TheVariants as find

-- the status of a tree whose encoding doesn't decode to it
abbrev pub lossy_tree : ℕ
lossy_tree = 17

-- the status of a failure
abbrev pub failure_status : Failure → ℕ
failure_status failure.Malformed = malformed
failure_status failure.OutOfMemory = out_of_memory
failure_status failure.BadLine = bad_line
failure_status failure.InvalidName = invalid_name
failure_status failure.IsDirectory = is_directory
failure_status (failure.NotFound id) = not_found
failure_status failure.MalformedTree = malformed_tree
failure_status failure.NotEncodable = not_encodable
failure_status (failure.LossyTree id) = lossy_tree

-- the id that a failure has, or nothing
abbrev pub own_id : Failure → List ℕ
own_id (failure.NotFound id) = id_bytes id
own_id (failure.LossyTree id) = id_bytes id
own_id it = []

-- a tree that is looked up is missing, or it is one of the lossy trees
abbrev pub missing_or_lossy : ObjectId → Option StoredObject → Failure
missing_or_lossy id None = failure.NotFound id
missing_or_lossy id (Some it) = failure.LossyTree id

-- the failure by these lossy trees, of one that finds none of them
abbrev pub given_failure : Objects → Failure → Failure
given_failure lossy (failure.NotFound id) = missing_or_lossy id (named lossy id)
given_failure lossy it = it

-- the failure of a lookup of a tree
abbrev pub lookup_failure : existing.Error → Failure
lookup_failure (object.Find (find.Store message)) = failure.MalformedTree
lookup_failure (object.Find find.OutOfMemory) = failure.OutOfMemory
lookup_failure (object.Decode id decode.Malformed) = failure.MalformedTree
lookup_failure (object.Decode id decode.OutOfMemory) = failure.OutOfMemory
lookup_failure (object.NotFound id) = failure.NotFound id
lookup_failure (object.ObjectKind id actual expected) = failure.MalformedTree

-- the failure of an edit
abbrev pub edit_failure : Error → Failure
edit_failure editing.EmptyPathComponent = failure.InvalidName
edit_failure editing.SlashInPathComponent = failure.InvalidName
edit_failure (editing.FindExistingObject cause) = lookup_failure cause
edit_failure (editing.CannotRemoveNonLeaf path) = failure.IsDirectory
edit_failure editing.MalformedTree = failure.MalformedTree
edit_failure editing.OutOfMemory = failure.OutOfMemory

-- the failure of an encoder's error
abbrev pub encode_failure : encode.Error → Failure
encode_failure (encode_error.Writer cause) = failure.OutOfMemory
encode_failure encode_error.OutOfMemory = failure.OutOfMemory
encode_failure (encode_error.NewlineInHeaderValue value) = failure.NotEncodable
encode_failure encode_error.EmptyValue = failure.NotEncodable
encode_failure encode_error.StartsWithDash = failure.NotEncodable
encode_failure (encode_error.InvalidRefName fault) = failure.NotEncodable
encode_failure (encode_error.NullbyteInFilename name) = failure.NotEncodable
encode_failure encode_error.IllegalActor = failure.NotEncodable

-- the failure of a store that didn't keep a tree
abbrev pub keep_failure : KeepError → Failure
keep_failure (keep.Store message) = failure.NotEncodable
keep_failure keep.OutOfMemory = failure.OutOfMemory
