-- A commit as walks read it from its encoding, and the commits of an object store as a graph (gitdatamodel, "commits").
use Rattle.std.specs.Prelude.{◌≡◌, ◌≢◌, ℕ, Bool, List, [], ◌++◌, None, codes}
use Rattle.std.specs.List.{AllZip}
use Rattle.gixobj_hash.specs.ByteStrings.{IsByteFree}
use Rattle.gixobj_hash.specs.Bytes.{newline}
use Rattle.gixobj_hash.specs.FieldFormat.{encode_field}
use Rattle.gixobj_hash.specs.Hash.{DecodesToId}
use Rattle.gixobj_hash.specs.declared.decode.Error.{Error}
use Rattle.gixobj_hash.specs.declared.decode.Error.TheVariants.{Malformed, OutOfMemory}
use Rattle.gixobj_hash.specs.declared.hash.kind.Kind as hash
use Rattle.gixobj_hash.specs.declared.hash.object_id.ObjectId.{ObjectId}
use Rattle.gixobj_hash.specs.declared.kind.Kind.{Kind}
use Rattle.gixobj_hash.specs.declared.kind.Kind.TheVariants.{Commit}
use Rattle.gixobj_grammar.specs.Commit.{CommitLines, DecodesToCommit, IsMalformedCommit}
use Rattle.gixobj_store.specs.Stores.{IsFindError, Names, Objects, StoredObject, named}
use Rattle.gixobj_walks_graph.specs.Graph.{Graph, NodeView}
use Rattle.gixobj_walks_commits.specs.Seconds.{HasSeconds}
use Rattle.gixobj_walks_commits.specs.declared.error.NodeError.{NodeError}
use Rattle.gixobj_walks_commits.specs.declared.error.NodeError.TheVariants as node

-- the bytes are the encoding of a commit with these parents, in the order of its lines, and these seconds of its
-- committer
pub record IsNodeOf (kind : hash.Kind) (bytes : List ℕ) (it : NodeView ObjectId) : Type 0 where
  pub commit : CommitLines
  pub decodes : DecodesToCommit kind bytes commit
  pub parents : AllZip DecodesToId commit.parents it.parents
  pub seconds : HasSeconds commit.committer it.seconds

-- why a commit isn't read. Malformed: the bytes are the encoding of no commit; OutOfMemory: they are that of a commit
-- with a parent
abbrev pub IsCommitNodeError : hash.Kind → List ℕ → Error → Type 0
IsCommitNodeError kind bytes Malformed = IsMalformedCommit kind bytes
IsCommitNodeError kind bytes OutOfMemory = (commit : CommitLines) × DecodesToCommit kind bytes commit
    × (commit.parents ≢ [])

-- the input begins with the lines of an author and of this committer
pub record BeginsWithActors (input committer : List ℕ) : Type 0 where
  pub author : List ℕ
  pub rest : List ℕ
  pub joined : input ≡ encode_field (codes "author") author ++ (encode_field (codes "committer") committer ++ rest)
  pub author_line : IsByteFree newline author
  pub committer_line : IsByteFree newline committer

-- ---- stores

-- the id names an object of this kind
abbrev pub NamesKind : Objects → ObjectId → Kind → Type 0
NamesKind objects id kind = (it : StoredObject) × Names objects id it × (it.kind ≡ kind)

-- the commits of a store: the id names a commit with these parents and seconds
pub record NamesNode (objects : Objects) (id : ObjectId) (it : NodeView ObjectId) : Type 0 where
  pub object : StoredObject
  pub named : Names objects id object
  pub kind : object.kind ≡ Commit
  pub read : IsNodeOf object.object_hash object.bytes it

-- the commits of a store as a graph
abbrev pub CommitGraph : Objects → Graph ObjectId
CommitGraph objects = NamesNode objects

-- why no commit is read by its id: the lookup failed, the id names no object, the object is of another kind, or its
-- content is not read
abbrev pub IsFindNodeError : Objects → (ObjectId → Bool) → ObjectId → NodeError → Type 0
IsFindNodeError objects may_fail id (node.Find oid cause) = (oid ≡ id) × IsFindError may_fail id cause
IsFindNodeError objects may_fail id (node.NotFound oid) = (oid ≡ id) × (named objects id ≡ None)
IsFindNodeError objects may_fail id (node.ObjectKind oid actual) = (oid ≡ id) × (actual ≢ Commit)
    × NamesKind objects id actual
IsFindNodeError objects may_fail id (node.Decode oid cause) = (oid ≡ id)
    × ((it : StoredObject) × Names objects id it × (it.kind ≡ Commit)
    × IsCommitNodeError it.object_hash it.bytes cause)
IsFindNodeError objects may_fail id (node.TooManyTags oid) = ⊥
