-- Owned objects of any kind: their kind, their encoding, and errors of encoding (gitdatamodel, "objects").
use Rattle.std.specs.Prelude.{ℕ, List}
use Rattle.gixobj_commit.specs.CommitViews.{owned_commit_lines}
use Rattle.gixobj_commit.specs.CommitWriting.{IsOwnedCommitError, encode_commit}
use Rattle.gixobj_streams.specs.Writing.{RejectedValue}
use Rattle.gixobj_hash.specs.declared.kind.Kind.{Kind}
use Rattle.gixobj_hash.specs.declared.kind.Kind.TheVariants as kind
use Rattle.gixobj_tag.specs.TagViews.{owned_tag_lines}
use Rattle.gixobj_tag.specs.TagWriting.{IsOwnedTagError, encode_tag}
use Rattle.gixobj_tree.specs.TreeEncoding.{IsTreeEncodeError, encode_tree}
use Rattle.gixobj_object.specs.declared.object.Object.{Object}
use Rattle.gixobj_object.specs.declared.object.Object.TheVariants as object

-- the kind of an object
abbrev pub owned_kind : Object → Kind
owned_kind (object.Tree tree) = kind.Tree
owned_kind (object.Blob blob) = kind.Blob
owned_kind (object.Commit commit) = kind.Commit
owned_kind (object.Tag tag) = kind.Tag

-- the encoding of an object is that of its tree, blob, commit or tag
abbrev pub encode_owned_object : Object → List ℕ
encode_owned_object (object.Tree tree) = encode_tree tree
encode_owned_object (object.Blob blob) = blob.bytes.items
encode_owned_object (object.Commit commit) = encode_commit (owned_commit_lines commit)
encode_owned_object (object.Tag tag) = encode_tag (owned_tag_lines tag)

-- the rejected value of an object and the bytes before it are those of its tree, commit or tag; a blob has none
abbrev pub IsOwnedObjectError : Object → RejectedValue → List ℕ → Type 0
IsOwnedObjectError (object.Tree tree) = IsTreeEncodeError tree
IsOwnedObjectError (object.Blob blob) = λ value parts. ⊥
IsOwnedObjectError (object.Commit commit) = IsOwnedCommitError commit
IsOwnedObjectError (object.Tag tag) = IsOwnedTagError tag
