-- The encoding of commits, and the values that are rejected (gitdatamodel, "commits").
use Rattle.std.specs.Prelude.{◌≡◌, ◌⊎◌, ℕ, List, [], ◌∷◌, ◌++◌, All, Option, Some, None, codes, map}
use Rattle.std.specs.List.{flat_map}
use Rattle.std.specs.Str.{str_to_ascii_lowercase}
use Rattle.bstr.specs.BStr.{bstr_bytes}
use Rattle.bstr.specs.declared.bstr.BStr.{BStr}
use Rattle.gixobj_actor.specs.ActorWriting.{IsLegal}
use Rattle.gixobj_hash.specs.Hash.{IsIdHex, encode_id_hex}
use Rattle.gixobj_hash.specs.Hash.Hex.{decoded_id}
use Rattle.gixobj_encode.specs.FieldWriting.{IsValueError, encode_header}
use Rattle.gixobj_hash.specs.FieldFormat.{encode_field}
use Rattle.gixobj_streams.specs.Writing.{RejectedValue, illegal_actor}
use Rattle.gixobj_grammar.specs.Commit.{CommitLines, before_encoding, encode_encoding, encode_ids, encode_parent}
use Rattle.gixobj_commit.specs.CommitViews.{owned_commit_lines}
use Rattle.gixobj_commit.specs.declared.commit.Commit.{Commit}
use Rattle.gixobj_hash.specs.Bytes.{newline, space}

-- the commit with its ids in lower case
abbrev pub in_lower_case : CommitLines → CommitLines
in_lower_case commit = record {
  tree = str_to_ascii_lowercase commit.tree;
  parents = map str_to_ascii_lowercase commit.parents;
  author = commit.author;
  committer = commit.committer;
  encoding = commit.encoding;
  extra_headers = commit.extra_headers;
  message = commit.message;
}

-- the line of the tree: its id is decoded from hex, and encoded in lower case
abbrev pub hex_tree : BStr → List ℕ
hex_tree hex = encode_field (codes "tree") (encode_id_hex (decoded_id (bstr_bytes hex)))

-- the line of a parent, with its id in lower case
abbrev pub hex_parent : BStr → List ℕ
hex_parent hex = encode_parent (str_to_ascii_lowercase (bstr_bytes hex))

-- the lines of the tree and of the parents of a borrowed commit
abbrev pub hex_lines : BStr → List BStr → List ℕ
hex_lines tree parents = hex_tree tree ++ flat_map hex_parent parents

-- the bytes before the author: the lines of the ids, `author` and a space
abbrev pub before_author : CommitLines → List ℕ
before_author commit = encode_ids commit ++ codes "author" ++ space ∷ []

-- the bytes before the committer: the lines of the ids and of the author, `committer` and a space
abbrev pub before_committer : CommitLines → List ℕ
before_committer commit = encode_ids commit ++ encode_field (codes "author") commit.author ++ codes "committer" ++ space
    ∷ []

-- the encoding of a commit: its lines, its extra headers, an empty line and the message
abbrev pub encode_commit : CommitLines → List ℕ
encode_commit commit = before_encoding commit ++ encode_encoding commit.encoding ++ flat_map encode_header
    commit.extra_headers ++ newline ∷ commit.message

-- a message encoding is rejected if it is empty or has a newline
abbrev pub IsMessageEncodingError : Option (List ℕ) → RejectedValue → Type 0
IsMessageEncodingError None value = ⊥
IsMessageEncodingError (Some encoding) value = IsValueError encoding value

-- a message encoding is rejected before any byte of its line
abbrev pub IsEncodingLineError : Option (List ℕ) → RejectedValue → List ℕ → Type 0
IsEncodingLineError encoding value parts = IsMessageEncodingError encoding value × (parts ≡ [])

-- a borrowed commit is rejected only for its message encoding, after all lines before it
abbrev pub IsCommitLinesError : CommitLines → RejectedValue → List ℕ → Type 0
IsCommitLinesError commit value parts = IsMessageEncodingError commit.encoding value × (parts ≡ before_encoding commit)

-- an owned commit is rejected for its author, else for its committer, else for its message encoding
abbrev pub IsOwnedCommitError : Commit → RejectedValue → List ℕ → Type 0
IsOwnedCommitError commit value parts =
    (¬ (IsLegal commit.author) × (value ≡ illegal_actor) × (parts ≡ before_author (owned_commit_lines commit)))
    ⊎ ((IsLegal commit.author × ¬ (IsLegal commit.committer) × (value ≡ illegal_actor)
    × (parts ≡ before_committer (owned_commit_lines commit)))
    ⊎ (IsLegal commit.author × IsLegal commit.committer × IsCommitLinesError (owned_commit_lines commit) value parts))

-- the hex fields of a commit are ids
pub record HasIds (commit : CommitLines) : Type 0 where
  pub tree : IsIdHex commit.tree
  pub parents : All IsIdHex commit.parents
