-- The encoding of tags (gitdatamodel, "tag objects"; gitformat-signature, "Tag signatures").
use Rattle.std.specs.Prelude.{◌≡◌, ℕ, List, ◌++◌, Option, codes}
use Rattle.gixobj_hash.specs.FieldFormat.{encode_field}
use Rattle.gixobj_hash.specs.Hash.Hex.{IsIdHexOfKind}
use Rattle.gixobj_hash.specs.declared.hash.kind.Kind as hash
use Rattle.gixobj_hash.specs.declared.kind.Kind.{Kind}
pub use Rattle.gixobj_grammar.specs.TagPrefix.{IsLineName, IsTaggerLine, encode_tagger, encode_target_lines}
use Rattle.gixobj_grammar.specs.TagBodies.{IsBody}

-- the fields of an encoded tag: an id in hex, a kind, a name, the value of a tagger line, a message, a signature
pub record TagLines : Type 0 where
  pub target : List ℕ
  pub target_kind : Kind
  pub name : List ℕ
  pub tagger : Option (List ℕ)
  pub message : List ℕ
  pub signature : Option (List ℕ)

-- ---- lines

-- the lines of the target and of its kind
abbrev pub encode_target : TagLines → List ℕ
encode_target tag = encode_target_lines (encode_field (codes "object") tag.target) tag.target_kind

-- the lines before the body
abbrev pub encode_tag_lines : TagLines → List ℕ
encode_tag_lines tag = encode_target tag ++ encode_field (codes "tag") tag.name ++ encode_tagger tag.tagger

-- ---- tags

-- the bytes decode to this tag, whose target has an id of this kind: its lines, and then its body
pub record DecodesToTag (kind : hash.Kind) (content : List ℕ) (tag : TagLines) : Type 0 where
  pub body : List ℕ
  pub joined : content ≡ encode_tag_lines tag ++ body
  pub target : IsIdHexOfKind kind tag.target
  pub name : IsLineName tag.name
  pub tagger : IsTaggerLine tag.tagger
  pub parted : IsBody body tag.message tag.signature

-- the bytes decode to no tag
abbrev pub IsMalformedTag : hash.Kind → List ℕ → Type 0
IsMalformedTag kind content = (tag : TagLines) → ¬ DecodesToTag kind content tag
