-- The encoding of a commit, and its lines (gitdatamodel, "commits").
use Rattle.std.specs.Prelude.{◌≡◌, ◌≢◌, ◌⊎◌, ℕ, List, [], ◌∷◌, ◌++◌, All, Option, Some, None, codes, map, ⊤}
use Rattle.std.specs.List.{flat_map}
use Rattle.gixobj_hash.specs.HeaderFormat.{Header, DecodesToHeader}
use Rattle.gixobj_hash.specs.FieldFormat.{encode_field}
use Rattle.gixobj_hash.specs.Hash.Hex.{IsIdHexOfKind}
use Rattle.gixobj_hash.specs.declared.decode.Error.{Error}
use Rattle.gixobj_hash.specs.declared.decode.Error.TheVariants.{Malformed, OutOfMemory}
use Rattle.gixobj_hash.specs.declared.hash.kind.Kind.{Kind}
use Rattle.gixobj_grammar.specs.Lines.{LineView, author_line, committer_line, encoding_line, header_line, message_line}
use Rattle.gixobj_grammar.specs.Lines.{parent_line, tree_line}
use Rattle.gixobj_actor.specs.Actor.{NamesActor}
use Rattle.gixobj_hash.specs.Bytes.{newline}
use Rattle.gixobj_hash.specs.ByteStrings.{IsByteFree}

-- the parts of a commit's encoding: ids in hex, actor lines, a message encoding, extra headers and a message
pub record CommitLines : Type 0 where
  pub tree : List ℕ
  pub parents : List (List ℕ)
  pub author : List ℕ
  pub committer : List ℕ
  pub encoding : Option (List ℕ)
  pub extra_headers : List Header
  pub message : List ℕ

-- ---- encodings

-- the line of a parent
abbrev pub encode_parent : List ℕ → List ℕ
encode_parent hex = encode_field (codes "parent") hex

-- the line of a message encoding if there is one
abbrev pub encode_encoding : Option (List ℕ) → List ℕ
encode_encoding None = []
encode_encoding (Some encoding) = encode_field (codes "encoding") encoding

-- the lines of the tree and of the parents
abbrev pub encode_ids : CommitLines → List ℕ
encode_ids commit = encode_field (codes "tree") commit.tree ++ flat_map encode_parent commit.parents

-- the lines before the message encoding
abbrev pub before_encoding : CommitLines → List ℕ
before_encoding commit = encode_ids commit ++ encode_field (codes "author") commit.author ++ encode_field
    (codes "committer") commit.committer

-- the message encoding has no newline; without a message encoding, the first extra header is not named `encoding`
abbrev pub IsEncoding : Option (List ℕ) → List Header → Type 0
IsEncoding (Some encoding) headers = IsByteFree newline encoding
IsEncoding None [] = ⊤
IsEncoding None (header ∷ headers) = header.name ≢ codes "encoding"

-- the bytes are the encodings of these headers, in order
abbrev pub DecodesToHeaders : List ℕ → List Header → Type 0
DecodesToHeaders bytes [] = bytes ≡ []
DecodesToHeaders bytes (header ∷ headers) = (first rest : List ℕ) × (bytes ≡ first ++ rest)
    × DecodesToHeader first header × DecodesToHeaders rest headers

-- the bytes begin with all lines of this commit before its message, with ids of this kind; the rest follows
pub record BeginsCommit (kind : Kind) (bytes : List ℕ) (commit : CommitLines) (rest : List ℕ) : Type 0 where
  pub headers_encoding : List ℕ
  pub joined : bytes ≡ before_encoding commit ++ encode_encoding commit.encoding ++ headers_encoding ++ rest
  pub tree : IsIdHexOfKind kind commit.tree
  pub parents : All (IsIdHexOfKind kind) commit.parents
  pub author : NamesActor commit.author
  pub committer : NamesActor commit.committer
  pub encoding : IsEncoding commit.encoding commit.extra_headers
  pub extra_headers : DecodesToHeaders headers_encoding commit.extra_headers

-- the bytes are the encoding of this commit: its lines, an empty line, and the message
abbrev pub DecodesToCommit : Kind → List ℕ → CommitLines → Type 0
DecodesToCommit kind bytes commit = BeginsCommit kind bytes commit (newline ∷ commit.message)

-- the bytes are the encoding of some commit
abbrev pub IsCommit : Kind → List ℕ → Type 0
IsCommit kind bytes = (commit : CommitLines) × DecodesToCommit kind bytes commit

-- the bytes are the encoding of no commit
abbrev pub IsMalformedCommit : Kind → List ℕ → Type 0
IsMalformedCommit kind bytes = (commit : CommitLines) → ¬ DecodesToCommit kind bytes commit

-- ---- allocation

-- the bytes begin with a tree and two parents
pub record ReachesSecondParent (kind : Kind) (bytes : List ℕ) : Type 0 where
  pub tree : List ℕ
  pub first : List ℕ
  pub second : List ℕ
  pub rest : List ℕ
  pub joined : bytes ≡ encode_field (codes "tree") tree ++ encode_parent first ++ encode_parent second ++ rest
  pub ids : All (IsIdHexOfKind kind) (tree ∷ first ∷ second ∷ [])

-- the bytes begin with the lines of a commit that has an extra header
abbrev pub ReachesHeader : Kind → List ℕ → Type 0
ReachesHeader kind bytes = (commit : CommitLines) × (rest : List ℕ) × BeginsCommit kind bytes commit rest
    × (commit.extra_headers ≢ [])

-- Malformed: the bytes are the encoding of no commit; OutOfMemory: valid lines up to a second parent, or to an extra
-- header, come first
abbrev pub IsCommitDecodeError : Kind → List ℕ → Error → Type 0
IsCommitDecodeError kind bytes Malformed = IsMalformedCommit kind bytes
IsCommitDecodeError kind bytes OutOfMemory = ReachesSecondParent kind bytes ⊎ ReachesHeader kind bytes

-- ---- lines

-- the line of the message encoding if there is one
abbrev pub encoding_lines : Option (List ℕ) → List LineView
encoding_lines None = []
encoding_lines (Some encoding) = encoding_line encoding ∷ []

-- the lines of a commit, in order
abbrev pub lines_of_commit : CommitLines → List LineView
lines_of_commit commit = tree_line commit.tree
    ∷ (map parent_line commit.parents ++ (author_line commit.author ∷ committer_line commit.committer
    ∷ (encoding_lines commit.encoding ++ (map header_line commit.extra_headers ++ message_line commit.message ∷ []))))
