-- Lookups of objects by id and kind in a store (git-cat-file).
use Rattle.std.specs.Prelude.{◌≡◌, ◌≢◌, ◌⊎◌, ℕ, Bool, List, [], None}
use Rattle.gixobj_store.specs.Stores.{Names, Objects, IsFindError, StoredObject, named}
use Rattle.gixobj_hash.specs.Hash.{id_kind, id_of}
use Rattle.gixobj_hash.specs.declared.hash.object_id.ObjectId.{ObjectId}
use Rattle.gixobj_hash.specs.declared.kind.Kind.{Kind}
use Rattle.gixobj_object.specs.ObjectReading.{DecodesToObject, IsObjectDecodeError}
use Rattle.gixobj_object.specs.declared.object.borrowed.ObjectRef.{ObjectRef}
use Rattle.gixobj_store_find.specs.declared.find.existing.Error as plain
use Rattle.gixobj_store_find.specs.declared.find.existing.Error.TheVariants as existing
use Rattle.gixobj_store_find.specs.declared.find.existing_iter.Error as iter_error
use Rattle.gixobj_store_find.specs.declared.find.existing_iter.Error.TheVariants as iter
pub use Rattle.gixobj_store_keep.specs.ExistingTrees.{IsEncodingOf, NamesSuch}
use Rattle.gixobj_store_keep.specs.declared.find.existing_object.Error as decoded
use Rattle.gixobj_store_keep.specs.declared.find.existing_object.Error.TheVariants as object

-- the id names no object
abbrev pub NamesNone : Objects → ObjectId → Type 0
NamesNone objects id = named objects id ≡ None

-- the id is that of the empty object of this kind
abbrev pub IsEmptyId : Kind → ObjectId → Type 0
IsEmptyId kind id = id ≡ id_of (id_kind id) kind []

-- the id names an object whose content decodes to this object
abbrev pub NamesEncoding : Objects → ObjectId → ObjectRef → Type 0
NamesEncoding objects id it = (kept : StoredObject) × Names objects id kept
    × DecodesToObject kept.object_hash kept.kind kept.bytes it

-- the id names an object of this kind, which differs from the expected kind
abbrev pub NamesOther : Objects → ObjectId → Kind → Kind → Type 0
NamesOther objects id actual expected = (kept : StoredObject) × Names objects id kept × (kept.kind ≡ actual)
    × (actual ≢ expected)

-- ---- errors of lookups

-- the error of a lookup: the lookup failed, or the id names no object
abbrev pub IsExistingError : Objects → (ObjectId → Bool) → ObjectId → plain.Error → Type 0
IsExistingError objects may_fail id (existing.Find cause) = IsFindError may_fail id cause
IsExistingError objects may_fail id (existing.NotFound said) = (said ≡ id) × NamesNone objects id

-- the error of a lookup of undecoded content: the lookup failed, or the id names no object
abbrev pub IsContentLookupError : Objects → (ObjectId → Bool) → ObjectId → iter_error.Error → Type 0
IsContentLookupError objects may_fail id (iter.Find cause) = IsFindError may_fail id cause
IsContentLookupError objects may_fail id (iter.NotFound said) = (said ≡ id) × NamesNone objects id
IsContentLookupError objects may_fail id (iter.ObjectKind said actual expected) = ⊥

-- the error of a lookup of an iterator: that of undecoded content, or the object is of another kind
abbrev pub IsReaderError : Objects → (ObjectId → Bool) → Kind → ObjectId → iter_error.Error → Type 0
IsReaderError objects may_fail kind id error =
    IsContentLookupError objects may_fail id error
    ⊎ ((actual : Kind) × (error ≡ iter.ObjectKind id actual kind) × NamesOther objects id actual kind)

-- the error of a decoding lookup: the lookup failed, the id names no object, or its content is not decoded as its kind
abbrev pub IsDecodingLookupError : Objects → (ObjectId → Bool) → ObjectId → decoded.Error → Type 0
IsDecodingLookupError objects may_fail id (object.Find cause) = IsFindError may_fail id cause
IsDecodingLookupError objects may_fail id (object.NotFound said) = (said ≡ id) × NamesNone objects id
IsDecodingLookupError objects may_fail id (object.Decode said cause) =
    (said ≡ id) × ((kept : StoredObject) × Names objects id kept
    × IsObjectDecodeError kept.object_hash kept.kind kept.bytes cause)
IsDecodingLookupError objects may_fail id (object.ObjectKind said actual expected) = ⊥

-- the error of a lookup of an object of this kind: that of a decoding lookup, or the object is of another kind, and its
-- content is the encoding of one
abbrev pub IsFindObjectError : Objects → (ObjectId → Bool) → Kind → ObjectId → decoded.Error → Type 0
IsFindObjectError objects may_fail kind id error =
    IsDecodingLookupError objects may_fail id error
    ⊎ ((actual : Kind) × (error ≡ object.ObjectKind id actual kind) × (actual ≢ kind)
    × NamesSuch objects id actual (λ hash content. IsEncodingOf hash actual content))
