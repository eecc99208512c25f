-- What the signature of a received commit or tag signs (gitformat-signature, "Commit signatures", "Tag signatures").
use Rattle.std.specs.Prelude.{◌≡◌, ℕ, List, [], ◌∷◌, ◌++◌, Some, if◌then◌else◌}
use Rattle.gixobj_commit.specs.CommitSigning.{is_header_named}
use Rattle.gixobj_commit.specs.CommitWriting.{encode_commit}
use Rattle.gixobj_commit.specs.ExtraHeaders.{HasNoHeaderNamed}
use Rattle.gixobj_grammar.specs.CommitSignatures.{signature_field}
use Rattle.gixobj_hash.specs.HeaderFormat.{Header}
use Rattle.gixobj_hash.specs.declared.hash.kind.Kind.{Kind}
use Rattle.gixobj_grammar.specs.Commit.{CommitLines, DecodesToCommit, IsEncoding}
use Rattle.gixobj_tag.specs.Rewriting.{PreservesBody}
use Rattle.gixobj_tag.specs.TagFormat.{DecodesToTag, TagLines}
use Rattle.gixobj_tag.specs.TagSigning.{payload_of_tag}

-- ---- commits

-- the headers without the first one of this name
abbrev pub without_first : List ℕ → List Header → List Header
without_first name [] = []
without_first name (header ∷ headers) =
    if is_header_named name header then headers else (header ∷ without_first name headers)

-- the commit without its first header of this name
abbrev pub without_first_header : List ℕ → CommitLines → CommitLines
without_first_header name commit = record commit { extra_headers = without_first name commit.extra_headers }

-- the commit's first header of this name has this value
abbrev pub HasFirstValue : List ℕ → CommitLines → List ℕ → Type 0
HasFirstValue name commit value = (before after : List Header) × HasNoHeaderNamed name before
    × (commit.extra_headers ≡ before ++ (record { name = name; value = value }) ∷ after)

-- both commits have the same tree, parents, actors and message
pub record HasSameParts (commit other : CommitLines) : Type 0 where
  pub tree : other.tree ≡ commit.tree
  pub parents : other.parents ≡ commit.parents
  pub author : other.author ≡ commit.author
  pub committer : other.committer ≡ commit.committer
  pub message : other.message ≡ commit.message

-- the signature is the value of the commit's first signature header, and the signed bytes are the encoding of the
-- commit without that header. They decode to that commit, unless a header named `encoding` would then come first. To
-- whichever commit they decode, it has the same parts
pub record SignsCommit (kind : Kind) (commit : CommitLines) (signature signed : List ℕ) : Type 0 where
  pub value : HasFirstValue (signature_field kind) commit signature
  pub encoded : signed ≡ encode_commit (without_first_header (signature_field kind) commit)
  pub decoded : IsEncoding commit.encoding (without_first (signature_field kind) commit.extra_headers)
      → DecodesToCommit kind signed (without_first_header (signature_field kind) commit)
  pub parts : (read : CommitLines) → DecodesToCommit kind signed read → HasSameParts commit read

-- ---- tags

-- both tags have the same target, target's kind, name and tagger line
pub record HasSameLines (tag other : TagLines) : Type 0 where
  pub target : other.target ≡ tag.target
  pub target_kind : other.target_kind ≡ tag.target_kind
  pub name : other.name ≡ tag.name
  pub tagger : other.tagger ≡ tag.tagger

-- the signature is the tag's, and the signed bytes are the tag's payload, unless its message is newlines alone. They
-- decode, and to a tag with the same lines
pub record SignsTag (kind : Kind) (tag : TagLines) (signature signed : List ℕ) : Type 0 where
  pub value : tag.signature ≡ Some signature
  pub payload : PreservesBody tag → signed ≡ payload_of_tag tag
  pub decoded : (read : TagLines) × DecodesToTag kind signed read
  pub lines : (read : TagLines) → DecodesToTag kind signed read → HasSameLines tag read
