-- Lookups of trees by id in a store, and the errors of objects of other kinds.
use Rattle.std.specs.Prelude.{◌≡◌, ◌≢◌, ℕ, Bool, List, None, ⊤}
use Rattle.gixobj_hash.specs.declared.decode.Error.{Error}
use Rattle.gixobj_hash.specs.declared.decode.Error.TheVariants.{Malformed}
use Rattle.gixobj_hash.specs.declared.hash.kind.Kind as hash
use Rattle.gixobj_hash.specs.declared.hash.object_id.ObjectId.{ObjectId}
use Rattle.gixobj_hash.specs.declared.kind.Kind.{Kind}
use Rattle.gixobj_hash.specs.declared.kind.Kind.TheVariants as kind
use Rattle.gixobj_grammar.specs.Commit.{IsCommit, IsMalformedCommit}
use Rattle.gixobj_grammar.specs.TagPrefix.{IsTag}
use Rattle.gixobj_store.specs.Stores.{Names, Objects, IsFindError, StoredObject, named}
use Rattle.gixobj_tree_entries.specs.Entries.{EntryView}
use Rattle.gixobj_tree_entries.specs.TreeDecoding.{DecodesToTree, IsTreeDecodeError}
use Rattle.gixobj_store_keep.specs.declared.find.existing_object.Error as decoded
use Rattle.gixobj_store_keep.specs.declared.find.existing_object.Error.TheVariants as object

-- the id names an object of this kind, for whose hash kind and content the predicate holds
abbrev pub NamesSuch : Objects → ObjectId → Kind → (hash.Kind → List ℕ → Type 0) → Type 0
NamesSuch objects id kind Is = (kept : StoredObject) × Names objects id kept × (kept.kind ≡ kind)
    × Is kept.object_hash kept.bytes

-- the content is the encoding of some object of this kind; any content is that of a blob
abbrev pub IsEncodingOf : hash.Kind → Kind → List ℕ → Type 0
IsEncodingOf hash kind.Tree content = (entries : List EntryView) × DecodesToTree hash content entries
IsEncodingOf hash kind.Blob content = ⊤
IsEncodingOf hash kind.Commit content = IsCommit hash content
IsEncodingOf hash kind.Tag content = IsTag hash content

-- the error for the content of an object of this kind: that of decoding a tree, or a malformed commit or tag
abbrev pub IsStoredContentError : hash.Kind → Kind → List ℕ → Error → Type 0
IsStoredContentError hash kind.Tree content error = IsTreeDecodeError hash content error
IsStoredContentError hash kind.Blob content error = ⊥
IsStoredContentError hash kind.Commit content error = (error ≡ Malformed) × IsMalformedCommit hash content
IsStoredContentError hash kind.Tag content error = (error ≡ Malformed) × (¬ IsTag hash content)

-- the error of a lookup of a tree: the lookup failed, the id names no object, its content does not decode as its kind,
-- or it is of another kind
abbrev pub IsExistingTreeError : Objects → (ObjectId → Bool) → ObjectId → decoded.Error → Type 0
IsExistingTreeError objects may_fail id (object.Find cause) = IsFindError may_fail id cause
IsExistingTreeError objects may_fail id (object.NotFound said) = (said ≡ id) × (named objects id ≡ None)
IsExistingTreeError objects may_fail id (object.Decode said cause) =
    (said ≡ id) × ((kept : StoredObject) × Names objects id kept
    × IsStoredContentError kept.object_hash kept.kind kept.bytes cause)
IsExistingTreeError objects may_fail id (object.ObjectKind said actual expected) =
    (said ≡ id) × (expected ≡ kind.Tree) × (actual ≢ kind.Tree)
    × NamesSuch objects id actual (λ hash content. IsEncodingOf hash actual content)
