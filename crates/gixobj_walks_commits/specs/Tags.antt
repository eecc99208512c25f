-- What an id names through tags (gitrevisions, `<rev>^{}`; gitglossary, "peel").
use Rattle.std.specs.Prelude.{◌≡◌, ◌≤◌, ◌⊎◌, ℕ, zero, suc, Bool, List, None, Option, Some}
use Rattle.gixobj_hash.specs.Hash.{DecodesToId}
use Rattle.gixobj_hash.specs.declared.decode.Error.TheVariants.{Malformed}
use Rattle.gixobj_hash.specs.declared.hash.kind.Kind as hash
use Rattle.gixobj_hash.specs.declared.hash.object_id.ObjectId.{ObjectId}
use Rattle.gixobj_hash.specs.declared.kind.Kind.TheVariants.{Blob, Commit, Tag, Tree}
use Rattle.gixobj_grammar.specs.TagPrefix.{BeginsTag, IsTag, IsTagBody}
use Rattle.gixobj_store.specs.Stores.{IsFindError, Names, Objects, StoredObject, named}
use Rattle.gixobj_walks_commits.specs.Nodes.{NamesKind}
use Rattle.gixobj_walks_commits.specs.declared.error.NodeError.{NodeError}
use Rattle.gixobj_walks_commits.specs.declared.error.NodeError.TheVariants as node
use Rattle.gixobj_walks_commits.specs.declared.peel.Peeled.{Peeled}
use Rattle.gixobj_walks_commits.specs.declared.peel.Peeled.TheVariants as peeled

-- the bytes are the encoding of a tag of the object with this id
pub record IsTagOf (kind : hash.Kind) (bytes : List ℕ) (target : ObjectId) : Type 0 where
  pub body : List ℕ
  pub tag : BeginsTag kind bytes body
  pub is_body : IsTagBody body
  pub tagged : DecodesToId tag.target target

-- the first id names a tag of the object with the second id
pub record NamesTagOf (objects : Objects) (id target : ObjectId) : Type 0 where
  pub object : StoredObject
  pub named : Names objects id object
  pub kind : object.kind ≡ Tag
  pub tag : IsTagOf object.object_hash object.bytes target

-- this number of tags lead from the first id to the second
abbrev pub TagsLeadTo : Objects → ℕ → ObjectId → ObjectId → Type 0
TagsLeadTo objects zero id target = id ≡ target
TagsLeadTo objects (suc n) id target = (next : ObjectId) × NamesTagOf objects id next
    × TagsLeadTo objects n next target

-- the id names this commit, itself or through tags
abbrev pub PeelsToCommit : Objects → ObjectId → ObjectId → Type 0
PeelsToCommit objects id commit = (n : ℕ) × TagsLeadTo objects n id commit × NamesKind objects commit Commit

-- what the id names through at most `max` tags: this commit; or none, and it is a tree or a blob
abbrev pub IsPeeled : Objects → ℕ → ObjectId → Option ObjectId → Type 0
IsPeeled objects max id (Some commit) = (n : ℕ) × (n ≤ max) × TagsLeadTo objects n id commit
    × NamesKind objects commit Commit
IsPeeled objects max id None = (n : ℕ) × (other : ObjectId) × (n ≤ max) × TagsLeadTo objects n id other
    × (NamesKind objects other Tree ⊎ NamesKind objects other Blob)

-- what an id names, without following a tag
abbrev pub IsPeeledOnce : Objects → ObjectId → Peeled → Type 0
IsPeeledOnce objects id peeled.Commit = NamesKind objects id Commit
IsPeeledOnce objects id peeled.Other = NamesKind objects id Tree ⊎ NamesKind objects id Blob
IsPeeledOnce objects id (peeled.Tag target) = NamesTagOf objects id target

-- the error of one lookup: it failed, the id names no object, or it names a malformed tag
abbrev pub IsPeelOnceError : Objects → (ObjectId → Bool) → ObjectId → NodeError → Type 0
IsPeelOnceError objects may_fail id (node.Find oid cause) = (oid ≡ id) × IsFindError may_fail id cause
IsPeelOnceError objects may_fail id (node.NotFound oid) = (oid ≡ id) × (named objects id ≡ None)
IsPeelOnceError objects may_fail id (node.ObjectKind oid actual) = ⊥
IsPeelOnceError objects may_fail id (node.Decode oid cause) = (oid ≡ id) × (cause ≡ Malformed)
    × ((it : StoredObject) × Names objects id it × (it.kind ≡ Tag) × (¬ IsTag it.object_hash it.bytes))
IsPeelOnceError objects may_fail id (node.TooManyTags oid) = ⊥

-- why an id isn't peeled: the error of the lookup of an id to which at most `max` tags lead; or `max` tags lead to
-- another tag
abbrev pub IsPeelError : Objects → (ObjectId → Bool) → ℕ → ObjectId → NodeError → Type 0
IsPeelError objects may_fail max id error =
    ((n : ℕ) × (oid : ObjectId) × (n ≤ max) × TagsLeadTo objects n id oid × IsPeelOnceError objects may_fail oid error)
    ⊎ ((oid : ObjectId) × (target : ObjectId) × (error ≡ node.TooManyTags oid) × TagsLeadTo objects max id oid
    × NamesTagOf objects oid target)
