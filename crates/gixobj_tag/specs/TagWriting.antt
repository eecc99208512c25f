-- Encodings of tags, and the values that are rejected (gitdatamodel, "tag objects"; git-check-ref-format,
-- "DESCRIPTION").
use Rattle.std.specs.Prelude.{◌≡◌, ◌⊎◌, ℕ, List, [], ◌∷◌, ◌++◌, Option, Some, None, codes, if◌then◌else◌}
use Rattle.gixobj_actor.specs.ActorWriting.{IsActorFieldError}
use Rattle.gixobj_actor.specs.declared.actor.Signature.{Signature}
use Rattle.gixobj_hash.specs.FieldFormat.{encode_field}
use Rattle.gixobj_streams.specs.Writing.{RejectedValue, bad_name, name_with_dash}
use Rattle.gixobj_streams.specs.declared.encode.RefNameFault.{RefNameFault}
use Rattle.gixobj_hash.specs.Kind.{kind_name}
use Rattle.gixobj_hash.specs.declared.kind.Kind.{Kind}
use Rattle.gixobj_tag.specs.NameRule.{BeginsWithDash, HasNoFault, IsFirstFault, IsTagName}
use Rattle.gixobj_tag.specs.TagFormat.{TagLines, encode_tag_lines, encode_target}
use Rattle.gixobj_grammar.specs.TagBodies.{are_newlines}
use Rattle.gixobj_tag.specs.TagViews.{owned_tag_lines}
use Rattle.gixobj_tag.specs.declared.tag.Tag.{Tag}
use Rattle.gixobj_hash.specs.Bytes.{newline}

-- ---- encodings

-- the encoding of a message: a newline precedes it, unless it is newlines alone
abbrev pub encode_message : List ℕ → List ℕ
encode_message message = (if are_newlines message then [] else (newline ∷ [])) ++ message

-- the encoding of a signature: a newline and the signature, or nothing
abbrev pub encode_signature : Option (List ℕ) → List ℕ
encode_signature None = []
encode_signature (Some signature) = newline ∷ signature

-- the encoding of a body: the message and the signature
abbrev pub encode_body : List ℕ → Option (List ℕ) → List ℕ
encode_body message signature = encode_message message ++ encode_signature signature

-- the encoding of a tag by its parts: the target's line, the target's kind, the name, the tagger's line, the body
abbrev pub encode_tag_parts : List ℕ → Kind → List ℕ → List ℕ → List ℕ → List ℕ
encode_tag_parts target_line kind name tagger_line body =
    target_line ++ encode_field (codes "type") (kind_name kind) ++ encode_field (codes "tag") name ++ tagger_line
    ++ body

-- the encoding of a tag
abbrev pub encode_tag : TagLines → List ℕ
encode_tag tag = encode_tag_lines tag ++ encode_body tag.message tag.signature

-- ---- errors

-- a name is rejected for its first fault or, without one, for the dash with which it begins
abbrev pub IsNameValueError : List ℕ → RejectedValue → Type 0
IsNameValueError name value = ((fault : RefNameFault) × IsFirstFault name fault × (value ≡ bad_name fault))
    ⊎ (HasNoFault name × BeginsWithDash name × (value ≡ name_with_dash))

-- a name is rejected before any byte of its line
abbrev pub IsNameLineError : List ℕ → RejectedValue → List ℕ → Type 0
IsNameLineError name value parts = IsNameValueError name value × (parts ≡ [])

-- a borrowed tag is rejected for its name alone, after the lines of its target and of its kind
abbrev pub IsTagLinesError : TagLines → RejectedValue → List ℕ → Type 0
IsTagLinesError tag value parts = IsNameValueError tag.name value × (parts ≡ encode_target tag)

-- a tagger is rejected after the name of its field and a space
abbrev pub IsTaggerError : Option Signature → RejectedValue → List ℕ → Type 0
IsTaggerError None value parts = ⊥
IsTaggerError (Some actor) value parts = IsActorFieldError (codes "tagger") actor value parts

-- a tag with these lines before its name is rejected for the name after them, or else for its tagger after the name's
-- line
abbrev pub IsTagPartsError : List ℕ → List ℕ → (RejectedValue → List ℕ → Type 0) → RejectedValue → List ℕ → Type 0
IsTagPartsError prefix name Rejects value parts =
    (IsNameValueError name value × (parts ≡ prefix))
    ⊎ (IsTagName name
    × ((line : List ℕ) × Rejects value line × (parts ≡ prefix ++ encode_field (codes "tag") name ++ line)))

-- an owned tag is rejected for its name, or else for its tagger
abbrev pub IsOwnedTagError : Tag → RejectedValue → List ℕ → Type 0
IsOwnedTagError tag = IsTagPartsError (encode_target (owned_tag_lines tag)) (owned_tag_lines tag).name
    (IsTaggerError tag.tagger)
