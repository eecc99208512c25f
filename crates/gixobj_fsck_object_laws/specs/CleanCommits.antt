-- Commits of which git-fsck has no message (git-fsck, "FSCK MESSAGES").
use Rattle.std.specs.Prelude.{◌≡◌, ◌≤◌, ◌↔◌, ℕ, Bool, List, [], ◌∷◌, ◌++◌, All, Option, codes}
use Rattle.std.specs.List.{flat_map}
use Rattle.gixobj_grammar.specs.Commit.{DecodesToHeaders, IsCommit, IsEncoding, encode_encoding, encode_parent}
use Rattle.gixobj_hash.specs.ByteStrings.{IsByteFree, SplitsAtLast}
use Rattle.gixobj_hash.specs.Bytes.{greater_than, newline}
use Rattle.gixobj_hash.specs.FieldFormat.{encode_field}
use Rattle.gixobj_hash.specs.Hash.Hex.{IsIdHexOfKind}
use Rattle.gixobj_hash.specs.HeaderFormat.{Header}
use Rattle.gixobj_hash.specs.declared.hash.kind.Kind.{Kind}
use Rattle.gixobj_fsck.specs.Commits.{IsCleanCommit}
use Rattle.gixobj_fsck_findings.specs.Checks.{HaveDocumentedSeverities}
use Rattle.gixobj_fsck_findings.specs.CommitChecks.{AreCommitFindings}
use Rattle.gixobj_fsck_messages.specs.declared.message.Message.{Message}
use Rattle.gixobj_fsck_messages.specs.declared.severity.Severity.{Severity}

-- the bytes begin with the lines of a tree, parents, this author and this committer, and the rest follows
pub record BeginsWithPeople (kind : Kind) (bytes author committer rest : List ℕ) : Type 0 where
  pub tree : List ℕ
  pub parents : List (List ℕ)
  pub joined : bytes ≡ encode_field (codes "tree") tree ++ flat_map encode_parent parents
      ++ encode_field (codes "author") author ++ encode_field (codes "committer") committer ++ rest
  pub is_tree : IsIdHexOfKind kind tree
  pub are_parents : All (IsIdHexOfKind kind) parents
  pub one_author : IsByteFree newline author
  pub one_committer : IsByteFree newline committer

-- white space before a date in C's sense that isn't part of a time: a vertical tab, a form feed or a carriage return
abbrev pub IsOtherWhite : ℕ → Type 0
IsOtherWhite byte = (11 ≤ byte) × (byte ≤ 13)

-- no such white space follows the last `>` of the line
abbrev pub HasPlainTime : List ℕ → Type 0
HasPlainTime line = (before after : List ℕ) → SplitsAtLast greater_than line before after
    → All (λ byte. ¬ IsOtherWhite byte) after

-- the bytes are a message encoding or none, extra headers, an empty line and a message
pub record EndsCommit (bytes : List ℕ) : Type 0 where
  pub encoding : Option (List ℕ)
  pub headers : List Header
  pub headers_encoding : List ℕ
  pub message : List ℕ
  pub joined : bytes ≡ encode_encoding encoding ++ headers_encoding ++ newline ∷ message
  pub is_encoding : IsEncoding encoding headers
  pub are_headers : DecodesToHeaders headers_encoding headers

-- the times of the author and of the committer are plain; headers, an empty line and a message follow
pub record HasPlainLines (kind : Kind) (bytes : List ℕ) : Type 0 where
  pub author : List ℕ
  pub committer : List ℕ
  pub rest : List ℕ
  pub people : BeginsWithPeople kind bytes author committer rest
  pub plain_author : HasPlainTime author
  pub plain_committer : HasPlainTime committer
  pub ends : EndsCommit rest

-- a commit without a message has lines of people
abbrev pub HasPeopleIfClean : Kind → List ℕ → Type 0
HasPeopleIfClean kind commit = IsCleanCommit kind commit
    → (author committer rest : List ℕ) × BeginsWithPeople kind commit author committer rest

-- a commit without a message is the encoding of a commit if and only if its times are plain, and headers, an empty line
-- and a message follow
abbrev pub DecodesIfPlain : Kind → List ℕ → Type 0
DecodesIfPlain kind commit = IsCleanCommit kind commit → IsCommit kind commit ↔ HasPlainLines kind commit

-- in a check without overrides a commit without findings is clean
abbrev pub IsCleanIfNotFound : Bool → (Message → Severity) → Kind → List ℕ → Type 0
IsCleanIfNotFound strict severity kind commit = HaveDocumentedSeverities strict severity
    → AreCommitFindings severity kind commit [] → IsCleanCommit kind commit
