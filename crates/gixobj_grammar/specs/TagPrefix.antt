-- The lines of a tag before its body, and which bytes are the encoding of a tag (gitdatamodel, "tag objects").
use Rattle.std.specs.Prelude.{◌≡◌, ◌≢◌, ℕ, List, [], ◌∷◌, ◌++◌, Option, Some, None, codes, ⊤}
use Rattle.gixobj_actor.specs.Actor.{BeginsWithActor}
use Rattle.gixobj_hash.specs.FieldFormat.{encode_field}
use Rattle.gixobj_hash.specs.Hash.Hex.{IsIdHexOfKind}
use Rattle.gixobj_hash.specs.Kind.{kind_name}
use Rattle.gixobj_hash.specs.declared.hash.kind.Kind as hash
use Rattle.gixobj_hash.specs.declared.kind.Kind.{Kind}
use Rattle.gixobj_hash.specs.Bytes.{newline}
use Rattle.gixobj_hash.specs.ByteStrings.{IsByteFree}

-- ---- lines

-- the line of a target, and then that of its kind
abbrev pub encode_target_lines : List ℕ → Kind → List ℕ
encode_target_lines target_line kind = target_line ++ encode_field (codes "type") (kind_name kind)

-- the line of a tagger, or nothing
abbrev pub encode_tagger : Option (List ℕ) → List ℕ
encode_tagger None = []
encode_tagger (Some line) = encode_field (codes "tagger") line

-- the name of a name line: not empty, without newline
abbrev pub IsLineName : List ℕ → Type 0
IsLineName name = (name ≢ []) × IsByteFree newline name

-- the value of a tagger line begins with an actor; bytes may follow its time
abbrev pub IsTaggerLine : Option (List ℕ) → Type 0
IsTaggerLine None = ⊤
IsTaggerLine (Some line) = BeginsWithActor line

-- ---- tags

-- the bytes begin with all lines of a tag, whose target has an id of this kind; the body follows
pub record BeginsTag (kind : hash.Kind) (bytes body : List ℕ) : Type 0 where
  pub target : List ℕ
  pub target_kind : Kind
  pub name : List ℕ
  pub tagger : Option (List ℕ)
  pub joined : bytes ≡ (encode_target_lines (encode_field (codes "object") target) target_kind
      ++ encode_field (codes "tag") name ++ encode_tagger tagger) ++ body
  pub is_target : IsIdHexOfKind kind target
  pub is_name : IsLineName name
  pub is_tagger : IsTaggerLine tagger

-- the bytes are the body of some tag: there are none, or the first is a newline
abbrev pub IsTagBody : List ℕ → Type 0
IsTagBody [] = ⊤
IsTagBody (byte ∷ rest) = byte ≡ newline

-- the bytes are the encoding of some tag
abbrev pub IsTag : hash.Kind → List ℕ → Type 0
IsTag kind bytes = (body : List ℕ) × BeginsTag kind bytes body × IsTagBody body
