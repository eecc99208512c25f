-- Commits with valid header names, and without a newline in fields of one line (gitdatamodel, "commits").
use Rattle.std.specs.Prelude.{ℕ, List, All, Option, Some, None, ⊤}
use Rattle.gixobj_hash.specs.HeaderFormat.{IsHeaderName}
use Rattle.gixobj_grammar.specs.Commit.{CommitLines}
use Rattle.gixobj_hash.specs.Bytes.{newline}
use Rattle.gixobj_hash.specs.ByteStrings.{IsByteFree}

-- each extra header has a valid name
abbrev pub HasHeaderNames : CommitLines → Type 0
HasHeaderNames commit = All (λ header. IsHeaderName header.name) commit.extra_headers

-- an optional value has no newline
abbrev pub IsOneLine : Option (List ℕ) → Type 0
IsOneLine None = ⊤
IsOneLine (Some bytes) = IsByteFree newline bytes

-- no field of one line has a newline: neither an id, an actor nor the message encoding
pub record HasLineFields (commit : CommitLines) : Type 0 where
  pub tree : IsByteFree newline commit.tree
  pub parents : All (λ hex. IsByteFree newline hex) commit.parents
  pub author : IsByteFree newline commit.author
  pub committer : IsByteFree newline commit.committer
  pub encoding : IsOneLine commit.encoding
