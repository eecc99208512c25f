-- Borrowed objects of any kind: their kind, their encoding, errors of encoding, and owned copies (gitdatamodel,
-- "objects").
use Rattle.std.specs.Prelude.{◌≡◌, ◌≢◌, ℕ, List, [], ⊤}
use Rattle.gixobj_commit.specs.CommitOwned.{IsOwnedFormOfCommit as IsOwnedCommit, IsIntoOwnedCommitError}
use Rattle.gixobj_commit.specs.CommitViews.{BorrowsOneLineValues, commit_lines}
use Rattle.gixobj_commit.specs.CommitWriting.{HasIds, IsCommitLinesError, encode_commit, in_lower_case}
use Rattle.gixobj_streams.specs.Writing.{RejectedValue}
use Rattle.gixobj_hash.specs.Hash.{IsIdHex}
use Rattle.gixobj_hash.specs.declared.decode.Error.{Error}
use Rattle.gixobj_hash.specs.declared.decode.Error.TheVariants.{OutOfMemory}
use Rattle.gixobj_hash.specs.declared.kind.Kind.{Kind}
use Rattle.gixobj_hash.specs.declared.kind.Kind.TheVariants as kind
use Rattle.gixobj_object.specs.declared.object.Object.{Object}
use Rattle.gixobj_object.specs.declared.object.Object.TheVariants as own
use Rattle.gixobj_tag.specs.TagOwned.{IsOwnedFormOfTag as IsOwnedTag, IsIntoOwnedTagError}
use Rattle.gixobj_tag.specs.TagViews.{tag_lines}
use Rattle.gixobj_tag.specs.TagWriting.{IsTagLinesError, encode_tag}
use Rattle.gixobj_tree.specs.TreeViews.{tree_entries}
use Rattle.gixobj_tree.specs.TreeEncoding.{IsTreeEncodeError, encode_tree}
use Rattle.gixobj_object.specs.declared.object.borrowed.ObjectRef.{ObjectRef}
use Rattle.gixobj_object.specs.declared.object.borrowed.ObjectRef.TheVariants as object

-- the kind of an object
abbrev pub borrowed_kind : ObjectRef → Kind
borrowed_kind (object.Tree tree) = kind.Tree
borrowed_kind (object.Blob blob) = kind.Blob
borrowed_kind (object.Commit commit) = kind.Commit
borrowed_kind (object.Tag tag) = kind.Tag

-- ---- hex fields

-- the hex fields of a commit and the target of a tag are ids
abbrev pub HasObjectIds : ObjectRef → Type 0
HasObjectIds (object.Tree tree) = ⊤
HasObjectIds (object.Blob blob) = ⊤
HasObjectIds (object.Commit commit) = HasIds (commit_lines commit)
HasObjectIds (object.Tag tag) = IsIdHex (tag_lines tag).target

-- precondition of encoding: the hex fields of a commit are ids
abbrev pub IsReadyToWrite : ObjectRef → Type 0
IsReadyToWrite (object.Tree tree) = ⊤
IsReadyToWrite (object.Blob blob) = ⊤
IsReadyToWrite (object.Commit commit) = HasIds (commit_lines commit)
IsReadyToWrite (object.Tag tag) = ⊤

-- ---- borrowed values

-- header values of one line of a commit are borrowed; the other objects own no bytes
abbrev pub BorrowsHeaderLines : ObjectRef → Type 0
BorrowsHeaderLines (object.Tree tree) = ⊤
BorrowsHeaderLines (object.Blob blob) = ⊤
BorrowsHeaderLines (object.Commit commit) = BorrowsOneLineValues commit
BorrowsHeaderLines (object.Tag tag) = ⊤

-- ---- encoding

-- the encoding of an object is that of its tree, blob, commit or tag
abbrev pub encode_borrowed_object : ObjectRef → List ℕ
encode_borrowed_object (object.Tree tree) = encode_tree (tree_entries tree)
encode_borrowed_object (object.Blob blob) = blob.bytes.now
encode_borrowed_object (object.Commit commit) = encode_commit (in_lower_case (commit_lines commit))
encode_borrowed_object (object.Tag tag) = encode_tag (tag_lines tag)

-- the rejected value of an object and the bytes before it are those of its tree, commit or tag; a blob has none
abbrev pub IsBorrowedObjectError : ObjectRef → RejectedValue → List ℕ → Type 0
IsBorrowedObjectError (object.Tree tree) = IsTreeEncodeError (tree_entries tree)
IsBorrowedObjectError (object.Blob blob) = λ value parts. ⊥
IsBorrowedObjectError (object.Commit commit) = IsCommitLinesError (in_lower_case (commit_lines commit))
IsBorrowedObjectError (object.Tag tag) = IsTagLinesError (tag_lines tag)

-- ---- owned copies

-- the owned object has the same kind, and it is the owned form of the tree, blob, commit or tag
abbrev pub IsOwnedObject : ObjectRef → Object → Type 0
IsOwnedObject (object.Tree tree) (own.Tree copy) = copy ≡ tree_entries tree
IsOwnedObject (object.Blob blob) (own.Blob copy) = copy.bytes.items ≡ blob.bytes.now
IsOwnedObject (object.Commit commit) (own.Commit copy) = IsOwnedCommit (commit_lines commit) copy
IsOwnedObject (object.Tag tag) (own.Tag copy) = IsOwnedTag (tag_lines tag) copy
IsOwnedObject _ _ = ⊥

-- the error of an owned copy: that of a commit or a tag. A blob, or a tree with entries, has no error but out of memory
abbrev pub IsIntoOwnedObjectError : ObjectRef → Error → Type 0
IsIntoOwnedObjectError (object.Tree tree) error = (error ≡ OutOfMemory) × (tree_entries tree ≢ [])
IsIntoOwnedObjectError (object.Blob blob) error = error ≡ OutOfMemory
IsIntoOwnedObjectError (object.Commit commit) error = IsIntoOwnedCommitError (commit_lines commit) error
IsIntoOwnedObjectError (object.Tag tag) error = IsIntoOwnedTagError (tag_lines tag) error
