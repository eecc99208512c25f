-- Decoding of objects of any kind (gitdatamodel, "objects").
use Rattle.std.specs.Prelude.{◌≡◌, ℕ, List}
use Rattle.gixobj_commit.specs.CommitViews.{commit_lines}
use Rattle.gixobj_hash.specs.declared.decode.Error.{Error}
use Rattle.gixobj_hash.specs.declared.decode.Error.TheVariants.{Malformed}
use Rattle.gixobj_hash.specs.declared.hash.kind.Kind as hash
use Rattle.gixobj_hash.specs.declared.kind.Kind.{Kind}
use Rattle.gixobj_hash.specs.declared.kind.Kind.TheVariants as kind
use Rattle.gixobj_grammar.specs.Commit.{DecodesToCommit, IsCommitDecodeError}
use Rattle.gixobj_tag.specs.TagFormat.{IsMalformedTag, DecodesToTag}
use Rattle.gixobj_tag.specs.TagViews.{tag_lines}
use Rattle.gixobj_tree_entries.specs.TreeDecoding.{DecodesToTree, IsTreeDecodeError}
use Rattle.gixobj_tree.specs.TreeViews.{tree_entries}
use Rattle.gixobj_object.specs.declared.object.borrowed.ObjectRef.{ObjectRef}
use Rattle.gixobj_object.specs.declared.object.borrowed.ObjectRef.TheVariants as object

-- the content decodes to this object, which is of this kind and has ids of this hash kind. A blob has the same bytes
abbrev pub DecodesToObject : hash.Kind → Kind → List ℕ → ObjectRef → Type 0
DecodesToObject hash kind.Tree content (object.Tree tree) = DecodesToTree hash content (tree_entries tree)
DecodesToObject hash kind.Blob content (object.Blob blob) = blob.bytes.now ≡ content
DecodesToObject hash kind.Commit content (object.Commit commit) = DecodesToCommit hash content (commit_lines commit)
DecodesToObject hash kind.Tag content (object.Tag tag) = DecodesToTag hash content (tag_lines tag)
DecodesToObject hash _ content _ = ⊥

-- the error of decoding an object: that of its tree or its commit. A tag is malformed, and a blob has no error
abbrev pub IsObjectDecodeError : hash.Kind → Kind → List ℕ → Error → Type 0
IsObjectDecodeError hash kind.Tree content error = IsTreeDecodeError hash content error
IsObjectDecodeError hash kind.Blob content error = ⊥
IsObjectDecodeError hash kind.Commit content error = IsCommitDecodeError hash content error
IsObjectDecodeError hash kind.Tag content error = (error ≡ Malformed) × IsMalformedTag hash content
