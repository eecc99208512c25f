-- An object that decodes as a kind is of this kind, and its content is the encoding of one. The lookups of `FindExt` use
-- it.
use Rattle.std.proofs.Common.{◌≡◌, ◌≢◌, ℕ, Bool, List, inl, inr, refl}
use Rattle.gixobj_commit.specs.CommitViews.{commit_lines}
use Rattle.gixobj_commit.specs.declared.commit.CommitRef.{CommitRef}
use Rattle.gixobj_store.specs.Stores.{Objects}
use Rattle.gixobj_hash.specs.declared.decode.Error.{Error}
use Rattle.gixobj_hash.specs.declared.hash.kind.Kind as hash
use Rattle.gixobj_hash.specs.declared.hash.object_id.ObjectId.{ObjectId}
use Rattle.gixobj_hash.specs.declared.kind.Kind.{Kind}
use Rattle.gixobj_hash.specs.declared.kind.Kind.TheVariants as kind
use Rattle.gixobj_grammar.specs.Commit.{DecodesToCommit}
use Rattle.gixobj_store_keep.specs.ExistingTrees.{IsStoredContentError, IsEncodingOf, IsExistingTreeError, NamesSuch}
use Rattle.gixobj_store_keep.specs.declared.find.existing_object.Error as decoded
use Rattle.gixobj_store_keep.specs.declared.find.existing_object.Error.TheVariants as object
use Rattle.gixobj_object.specs.BorrowedObjects.{borrowed_kind}
use Rattle.gixobj_object.specs.ObjectReading.{DecodesToObject, IsObjectDecodeError}
use Rattle.gixobj_object.specs.declared.object.borrowed.ObjectRef.{ObjectRef}
use Rattle.gixobj_object.specs.declared.object.borrowed.ObjectRef.TheVariants as ref
use Rattle.gixobj_tag.proofs.Recognized as recognized
use Rattle.gixobj_tag.specs.TagFormat.{DecodesToTag}
use Rattle.gixobj_tag.specs.TagViews.{tag_lines}
use Rattle.gixobj_tag.specs.declared.tag.TagRef.{TagRef}
use Rattle.gixobj_tree_entries.specs.TreeDecoding.{DecodesToTree}
use Rattle.gixobj_tree.specs.TreeViews.{tree_entries}
use Rattle.gixobj_tree.specs.declared.tree.borrowed.TreeRef.{TreeRef}
use Rattle.gixobj_tree.specs.declared.blob.BlobRef.{BlobRef}
use Rattle.gixobj_store_find.specs.Existing.{IsFindObjectError, NamesEncoding}

kind_and_content_of_blob : (hash : hash.Kind) (of : Kind) (content : List ℕ) (blob : BlobRef) → DecodesToObject hash of content (ref.Blob blob)
    → (of ≡ kind.Blob)
    × (blob.bytes.now ≡ content)
kind_and_content_of_blob hash kind.Tree content blob is = absurd is
kind_and_content_of_blob hash kind.Blob content blob is = (refl, is)
kind_and_content_of_blob hash kind.Commit content blob is = absurd is
kind_and_content_of_blob hash kind.Tag content blob is = absurd is

pub names_blob : (objects : Objects) (id : ObjectId) (blob : BlobRef) → NamesEncoding objects id (ref.Blob blob)
    → NamesSuch objects id kind.Blob (λ hash content. blob.bytes.now ≡ content)
names_blob objects id blob (kept, names, is) = let of_kind = kind_and_content_of_blob kept.object_hash kept.kind kept.bytes blob is in
    (kept, names, of_kind.0, of_kind.1)

kind_and_entries_of_tree : (hash : hash.Kind) (of : Kind) (content : List ℕ) (tree : TreeRef) → DecodesToObject hash of content (ref.Tree tree)
    → (of ≡ kind.Tree)
    × (DecodesToTree hash content (tree_entries tree))
kind_and_entries_of_tree hash kind.Tree content tree is = (refl, is)
kind_and_entries_of_tree hash kind.Blob content tree is = absurd is
kind_and_entries_of_tree hash kind.Commit content tree is = absurd is
kind_and_entries_of_tree hash kind.Tag content tree is = absurd is

kind_and_lines_of_commit : (hash : hash.Kind) (of : Kind) (content : List ℕ) (commit : CommitRef) → DecodesToObject hash of content (ref.Commit commit)
    → (of ≡ kind.Commit)
    × (DecodesToCommit hash content (commit_lines commit))
kind_and_lines_of_commit hash kind.Tree content commit is = absurd is
kind_and_lines_of_commit hash kind.Blob content commit is = absurd is
kind_and_lines_of_commit hash kind.Commit content commit is = (refl, is)
kind_and_lines_of_commit hash kind.Tag content commit is = absurd is

pub names_commit : (objects : Objects) (id : ObjectId) (commit : CommitRef) → NamesEncoding objects id (ref.Commit commit)
    → NamesSuch objects id kind.Commit (λ hash content. DecodesToCommit hash content (commit_lines commit))
names_commit objects id commit (kept, names, is) = let of_kind = kind_and_lines_of_commit kept.object_hash kept.kind kept.bytes commit is in
    (kept, names, of_kind.0, of_kind.1)

kind_and_lines_of_tag : (hash : hash.Kind) (of : Kind) (content : List ℕ) (tag : TagRef) → DecodesToObject hash of content (ref.Tag tag) → (of ≡ kind.Tag)
    × (DecodesToTag hash content (tag_lines tag))
kind_and_lines_of_tag hash kind.Tree content tag is = absurd is
kind_and_lines_of_tag hash kind.Blob content tag is = absurd is
kind_and_lines_of_tag hash kind.Commit content tag is = absurd is
kind_and_lines_of_tag hash kind.Tag content tag is = (refl, is)

pub names_tag : (objects : Objects) (id : ObjectId) (tag : TagRef) → NamesEncoding objects id (ref.Tag tag)
    → NamesSuch objects id kind.Tag (λ hash content. DecodesToTag hash content (tag_lines tag))
names_tag objects id tag (kept, names, is) = let of_kind = kind_and_lines_of_tag kept.object_hash kept.kind kept.bytes tag is in
    (kept, names, of_kind.0, of_kind.1)

-- ---- objects of other kinds

encoding_of_decoded_object : (hash : hash.Kind) (of : Kind) (content : List ℕ) (it : ObjectRef) → DecodesToObject hash of content it → (of ≡ borrowed_kind it)
    × IsEncodingOf hash (borrowed_kind it) content
encoding_of_decoded_object hash of content (ref.Tree tree) is = let it = kind_and_entries_of_tree hash of content tree is in (it.0, (tree_entries tree, it.1))
encoding_of_decoded_object hash of content (ref.Blob blob) is = ((kind_and_content_of_blob hash of content blob is).0, tt)
encoding_of_decoded_object hash of content (ref.Commit commit) is = let it = kind_and_lines_of_commit hash of content commit is in
    (it.0, (commit_lines commit, it.1))
encoding_of_decoded_object hash of content (ref.Tag tag) is = let it = kind_and_lines_of_tag hash of content tag is in
    (it.0, recognized.is_tag hash content (tag_lines tag) it.1)

pub is_of_another_kind : (objects : Objects) (may_fail : ObjectId → Bool) (kind : Kind) (id : ObjectId) (it : ObjectRef) (error : decoded.Error)
    → NamesEncoding objects id it → error ≡ object.ObjectKind id (borrowed_kind it) kind → borrowed_kind it ≢ kind
    → IsFindObjectError objects may_fail kind id error
is_of_another_kind objects may_fail kind id it error (kept, names, is) same other =
    let encoding = encoding_of_decoded_object kept.object_hash kept.kind kept.bytes it is in
    inr (borrowed_kind it, same, other, (kept, names, encoding.0, encoding.1))

-- ---- trees, whose lookup decodes no other object

decode_error_of_content_error : (hash : hash.Kind) (of : Kind) (content : List ℕ) (cause : Error) → IsStoredContentError hash of content cause
    → IsObjectDecodeError hash of content cause
decode_error_of_content_error hash kind.Tree content cause is = is
decode_error_of_content_error hash kind.Blob content cause is = is
decode_error_of_content_error hash kind.Commit content cause (same, malformed) = rw same malformed
decode_error_of_content_error hash kind.Tag content cause (same, none) = (same, λ tag is. none (recognized.is_tag hash content tag is))

pub is_tree_error : (objects : Objects) (may_fail : ObjectId → Bool) (id : ObjectId) (error : decoded.Error)
    → IsExistingTreeError objects may_fail id error → IsFindObjectError objects may_fail kind.Tree id error
is_tree_error objects may_fail id (object.Find cause) is = inl is
is_tree_error objects may_fail id (object.NotFound said) is = inl is
is_tree_error objects may_fail id (object.Decode said cause) (same, (kept, names, is)) = inl
    (same, (kept, names, decode_error_of_content_error kept.object_hash kept.kind kept.bytes cause is))
is_tree_error objects may_fail id (object.ObjectKind said actual expected) (same, tree, other, such) = inr (actual, rw (same, tree) refl, other, such)
