-- A clean tag decodes.
use Rattle.std.proofs.Common.{◌≡◌, ◌⊎◌, ℕ, Bool, true, false, arith, List, [], ◌++◌, Some, inl, inr, refl, sym, ap, subst, ◌∙◌, append_assoc}
use Rattle.std.specs.Prelude.{MatchBool, codes}
use Rattle.gixobj_grammar.specs.TagPrefix.{IsTag, IsTagBody}
use Rattle.gixobj_hash.specs.FieldFormat.{encode_field}
use Rattle.gixobj_hash.specs.HeaderFormat.{BeginsWithField}
use Rattle.gixobj_hash.specs.Kind.{kind_name}
use Rattle.gixobj_hash.specs.declared.hash.kind.Kind.{Kind}
use Rattle.gixobj_parse.proofs.HeaderFields.{has_field_of_parts}
use Rattle.gixobj_fsck.specs.Dates.{BeginsWithByte}
use Rattle.gixobj_fsck_tags.specs.Tags.{HasTagMessage, IsCleanTag}
use Rattle.gixobj_fsck_findings.proofs.TagLists.{tag_lists}
use Rattle.gixobj_fsck_messages.specs.declared.message.Message.{Message}
use Rattle.gixobj_fsck_messages.specs.declared.severity.Severity.{Severity}
use Rattle.gixobj_fsck_object_laws.specs.CleanTags.{DecodesIfNotFound}
use Rattle.gixobj_streams.specs.declared.encode.RefNameFault.TheVariants as fault
use Rattle.gixobj_fsck_object_laws.proofs.ActorLines.{begins_of_sound, sound_line_of_actor}

body_of_end : (body : List ℕ) → (body ≡ []) ⊎ BeginsWithByte 10 body → IsTagBody body
body_of_end body (inl none) = subst IsTagBody (sym none) tt
body_of_end body (inr begins) = subst IsTagBody (sym begins.1) refl

-- the lines of a tag, one after the other
lines_joined : (object type name tagger body : List ℕ)
    → object ++ (type ++ (name ++ (tagger ++ body))) ≡ ((object ++ type) ++ name ++ tagger) ++ body
lines_joined object type name tagger body = simp append_assoc

-- a clean tag is the encoding of a tag
pub tag_of_clean : (kind : Kind) (tag : List ℕ) → IsCleanTag kind tag → IsTag kind tag
tag_of_clean kind tag (start, name, rest, (b0, header, (b1, object, type)), named, ok, (after, (actor, sound, is, part, follows), ends)) =
    let line = sound_line_of_actor actor sound after part follows in
    let tagger : BeginsWithField (codes "tagger") rest line.0 after = has_field_of_parts (codes "tagger") rest actor line.0 after is line.1 in
    let object_line = encode_field (codes "object") object.0 in
    let type_line = encode_field (codes "type") (kind_name type.0) in
    let name_line = encode_field (codes "tag") name in
    let tagger_line = encode_field (codes "tagger") line.0 in
    let all : tag ≡ object_line ++ (type_line ++ (name_line ++ (tagger_line ++ after))) =
    sym header.2 ∙ object.1.0.joined ∙ ap (λ (it : List ℕ). object_line ++ it) (type.1.joined
    ∙ ap (λ (it : List ℕ). type_line ++ it) (named.joined ∙ ap (λ (it : List ℕ). name_line ++ it) tagger.joined)) in (
      after,
      record {
        target = object.0;
        target_kind = type.0;
        name = name;
        tagger = Some line.0;
        joined = all ∙ lines_joined object_line type_line name_line tagger_line after;
        is_target = object.1.1;
        is_name = (ok fault.Empty, named.one_line);
        is_tagger = begins_of_sound line.0 line.2;
      },
      body_of_end after ends,
    )

-- a tag without findings decodes, if no extra header comes
pub tag_of_no_findings : (strict : Bool) (severity : Message → Severity) (kind : Kind) (tag : List ℕ) (clean : Bool)
    → MatchBool clean (IsCleanTag kind tag) (HasTagMessage kind tag) → DecodesIfNotFound strict severity kind tag
tag_of_no_findings strict severity kind tag true is documented are none = tag_of_clean kind tag is
tag_of_no_findings strict severity kind tag false (inl extra) documented are none = absurd (none extra)
tag_of_no_findings strict severity kind tag false (inr has) documented are none =
    let empty = (tag_lists strict severity kind tag documented [] are has.0).1 has.1 in absurd (omega (arith, empty.1))
