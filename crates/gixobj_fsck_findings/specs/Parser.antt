-- What git's parser takes of commits and tags, before git-fsck checks them (gitdatamodel, "commits" and "tag objects";
-- git-hash-object, `--literally`).
use Rattle.std.specs.Prelude.{◌≡◌, ◌≢◌, ◌⊎◌, ◌+◌, ◌*◌, ◌<◌, ◌≤◌, [], ℕ, List, codes, length}
use Rattle.gixobj_hash.specs.ByteStrings.{IsByteFree, SplitsAt}
use Rattle.gixobj_hash.specs.Hash.{hash_len}
use Rattle.gixobj_hash.specs.HeaderFormat.{BeginsWithField, BeginsWithOtherName}
use Rattle.gixobj_hash.specs.Kind.{kind_name}
use Rattle.gixobj_hash.specs.declared.hash.kind.Kind.{Kind}
use Rattle.gixobj_hash.specs.declared.kind.Kind.{Kind as ObjectKind}
use Rattle.gixobj_parse.specs.HeaderReading.{BeginsWithIdField}

-- the lines of parents: git takes no parent from an input that is shorter than its line, and rejects a line that begins
-- `parent ` without an id in hex and a newline, or at the end of the commit
pub data AreParsedParents (kind : Kind) : List ℕ → Type 0 where
  short_rest : (input : List ℕ) → length input ≤ 2 * hash_len kind + 7 → AreParsedParents kind input
  other_line : (input : List ℕ) → BeginsWithOtherName (codes "parent") input → AreParsedParents kind input
  next_parent : (input hex rest : List ℕ) → BeginsWithIdField (codes "parent") kind input hex rest → rest ≢ []
      → AreParsedParents kind rest → AreParsedParents kind input

-- git's parser takes the commit: its tree's line, which isn't the end of it, and its parents
pub record IsParsedCommit (kind : Kind) (commit : List ℕ) : Type 0 where
  pub hex : List ℕ
  pub rest : List ℕ
  pub tree : BeginsWithIdField (codes "tree") kind commit hex rest
  pub filled : rest ≢ []
  pub parents : AreParsedParents kind rest

-- the name is all of the value before its first zero byte, if any
abbrev pub IsBeforeZero : List ℕ → List ℕ → Type 0
IsBeforeZero value name = (IsByteFree 0 value × (name ≡ value)) ⊎ ((rest : List ℕ) × SplitsAt 0 value name rest)

-- the value is the name of a kind of object, up to a zero byte
abbrev pub NamesKind : List ℕ → Type 0
NamesKind value = (kind : ObjectKind) × IsBeforeZero value (kind_name kind)

-- git's parser takes the tag: its length, its object, its type of less than 20 bytes, and its name
pub record IsParsedTag (kind : Kind) (tag : List ℕ) : Type 0 where
  pub hex : List ℕ
  pub start : List ℕ
  pub value : List ℕ
  pub end : List ℕ
  pub name : List ℕ
  pub rest : List ℕ
  pub long : 2 * hash_len kind + 24 ≤ length tag
  pub object : BeginsWithIdField (codes "object") kind tag hex start
  pub type_line : BeginsWithField (codes "type") start value end
  pub short : length value < 20
  pub known : NamesKind value
  pub named : BeginsWithField (codes "tag") end name rest
