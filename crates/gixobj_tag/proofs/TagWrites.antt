-- Tags are written step by step, and the error of a step is that of all: for `write_into` and the calls in it.
use Rattle.std.proofs.Common.{◌≡◌, ◌+◌, ◌≤◌, ◌⊎◌, ℕ, List, [], ◌∷◌, ◌++◌, Result, ap, arith, inl, inr, length, length-append, refl, sym, ◌∙◌}
use Rattle.std.proofs.lemmas.List.{append-nil}
use Rattle.std.specs.Prelude.{codes}
use Rattle.gixobj_streams.proofs.Appends.{appends_prefix_first, appends_all_nil, appends_or_fails_append}
use Rattle.gixobj_streams.proofs.Errors.{lacks_room_of_fewer, writing_error_append}
use Rattle.gixobj_hash.specs.FieldFormat.{encode_field}
use Rattle.gixobj_streams.specs.Streams.{AppendsAll, AppendsPrefix, AppendsOrFails, SinkView}
use Rattle.gixobj_streams.specs.Writing.{IsWritingError, LacksRoom, RejectedValue, RejectsNothing}
use Rattle.std.specs.declared.io.Error as io
use Rattle.gixobj_streams.specs.declared.encode.Error.{Error}
use Rattle.gixobj_tag.specs.NameRule.{IsTagName}
use Rattle.gixobj_tag.specs.TagFormat.{TagLines, encode_target}
use Rattle.gixobj_tag.specs.TagWriting.{IsTagLinesError, IsNameValueError, IsNameLineError, IsTagPartsError}

-- a byte is written, and then the rest
pub appends_prefix_cons : {cause : io.Error} (a b : SinkView) (byte : ℕ) (rest : List ℕ) → AppendsPrefix a b (byte ∷ []) cause
    → AppendsPrefix a b (byte ∷ rest) cause
appends_prefix_cons a b byte rest part = appends_prefix_first a b (byte ∷ []) rest part

pub appends_or_fails_cons : {T : Type 0} (r : Result T io.Error) (a b c : SinkView) (byte : ℕ) (rest : List ℕ) → AppendsAll a b (byte ∷ [])
    → AppendsOrFails r b c rest
    → AppendsOrFails r a c (byte ∷ rest)
appends_or_fails_cons r a b c byte rest first more = appends_or_fails_append r a b c (byte ∷ []) rest first more

pub parts_error_of_name : (prefix name : List ℕ) (Rejects : RejectedValue → List ℕ → Type 0) (value : RejectedValue) (parts : List ℕ)
    → IsNameLineError name value parts → IsTagPartsError prefix name Rejects value (prefix ++ parts)
parts_error_of_name prefix name Rejects value parts (rejected, none) = inl (rejected, ap (λ (it : List ℕ). prefix ++ it) none ∙ append-nil prefix)

pub parts_error_of_tagger : (prefix name : List ℕ) (Rejects : RejectedValue → List ℕ → Type 0) (value : RejectedValue) (parts : List ℕ) → IsTagName name
    → Rejects value parts → IsTagPartsError prefix name Rejects value ((prefix ++ encode_field (codes "tag") name) ++ parts)
parts_error_of_tagger prefix name Rejects value parts valid rejected = inr (valid, (parts, rejected, refl))

tag_name_rejects_nothing : (name : List ℕ) (value : RejectedValue) → IsTagName name → IsNameValueError name value → ⊥
tag_name_rejects_nothing name value valid (inl (fault, first, is)) = valid.0 fault first.here
tag_name_rejects_nothing name value valid (inr (clean, dash, is)) = valid.1 dash

-- no value is rejected if the name is valid and the tagger isn't rejected
pub parts_rejects_nothing : (prefix name : List ℕ) (Rejects : RejectedValue → List ℕ → Type 0) → IsTagName name → RejectsNothing Rejects
    → RejectsNothing (IsTagPartsError prefix name Rejects)
parts_rejects_nothing prefix name Rejects valid none value parts (inl it) = tag_name_rejects_nothing name value valid it.0
parts_rejects_nothing prefix name Rejects valid none value parts (inr (named, (line, rejected, is))) = none value line rejected

-- the unchanged value of a tagger line is never rejected
tag_lines_error_of_parts_error : (tag : TagLines) (value : RejectedValue) (parts : List ℕ)
    → IsTagPartsError (encode_target tag) tag.name (λ value line. ⊥) value parts
    → IsTagLinesError tag value parts
tag_lines_error_of_parts_error tag value parts (inl rejected) = rejected
tag_lines_error_of_parts_error tag value parts (inr (valid, (line, rejected, same))) = absurd rejected

pub writing_error_of_lines : (tag : TagLines) (before after : SinkView) (bytes : List ℕ) (error : Error)
    → IsWritingError (IsTagPartsError (encode_target tag) tag.name (λ value line. ⊥)) before after bytes error
    → IsWritingError (IsTagLinesError tag) before after bytes error
writing_error_of_lines tag before after bytes error says =
    writing_error_append (IsTagPartsError (encode_target tag) tag.name (λ value line. ⊥)) (IsTagLinesError tag) before before after [] bytes bytes
    (appends_all_nil before) (tag_lines_error_of_parts_error tag) (λ cause prefix. prefix) error says

-- ---- room for the parts before a rejected value

-- the parts begin with the lines of the target
pub parts_after_target : (prefix name : List ℕ) (Rejects : RejectedValue → List ℕ → Type 0) (value : RejectedValue) (parts : List ℕ)
    → IsTagPartsError prefix name Rejects value parts → length prefix ≤ length parts
parts_after_target prefix name Rejects value parts (inl it) = omega (arith, ap length it.1)
parts_after_target prefix name Rejects value parts (inr (valid, (line, rejected, is))) =
    omega (arith, ap length is, length-append (prefix ++ encode_field (codes "tag") name) line, length-append prefix (encode_field (codes "tag") name))

-- the rejected value is the name, or comes after its line
pub name_or_later : (prefix name : List ℕ) (Rejects : RejectedValue → List ℕ → Type 0) (value : RejectedValue) (parts : List ℕ)
    → IsTagPartsError prefix name Rejects value parts
    → ((begun : List ℕ) × IsNameLineError name value begun × (parts ≡ prefix ++ begun))
    ⊎ (length prefix + length (encode_field (codes "tag") name) ≤ length parts)
name_or_later prefix name Rejects value parts (inl it) = inl ([], (it.0, refl), it.1 ∙ sym (append-nil prefix))
name_or_later prefix name Rejects value parts (inr (valid, (line, rejected, is))) =
    inr (omega (arith, ap length is, length-append (prefix ++ encode_field (codes "tag") name) line, length-append prefix (encode_field (codes "tag") name)))

-- with a valid name the rejected value is of the tagger
pub tagger_or_later : (prefix name : List ℕ) (Rejects : RejectedValue → List ℕ → Type 0) (tagger : List ℕ) → IsTagName name
    → (value : RejectedValue) (parts : List ℕ) → IsTagPartsError prefix name Rejects value parts
    → ((begun : List ℕ) × Rejects value begun × (parts ≡ (prefix ++ encode_field (codes "tag") name) ++ begun))
    ⊎ (length (prefix ++ encode_field (codes "tag") name) + length tagger ≤ length parts)
tagger_or_later prefix name Rejects tagger valid value parts (inl it) = absurd (tag_name_rejects_nothing name value valid it.0)
tagger_or_later prefix name Rejects tagger valid value parts (inr (named, (line, rejected, is))) = inl (line, rejected, is)

-- a borrowed tag rejects its name alone
pub lacks_room_of_lines : (tag : TagLines) (before : SinkView) (error : Error)
    → LacksRoom (IsTagPartsError (encode_target tag) tag.name (λ value line. ⊥)) before error → LacksRoom (IsTagLinesError tag) before error
lacks_room_of_lines tag before error short =
    lacks_room_of_fewer (IsTagPartsError (encode_target tag) tag.name (λ value line. ⊥)) (IsTagLinesError tag) before
    (λ value parts rejected. inl rejected) error short
