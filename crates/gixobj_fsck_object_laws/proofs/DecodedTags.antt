-- Git has limited messages about a tag that decodes.
use Rattle.std.proofs.Common.{◌≡◌, ◌≢◌, ◌⊎◌, ◌+◌, ◌∙◌}
use Rattle.std.proofs.Common.{ℕ, zero, suc, add-one, List, [], ◌∷◌, ◌++◌, true, Ok, Err, Some, None, get_or, inl, inr, length, refl, sym, ap, subst}
use Rattle.std.proofs.Common.{append_assoc, arith}
use Rattle.std.specs.Prelude.{IsTrue, Option, Result, codes}
use Rattle.std.specs.List.{list_all}
use Rattle.std.proofs.lemmas.Bool.{and_parts}
use Rattle.std.proofs.lemmas.Bool.Decides.{nat_tests}
use Rattle.std.proofs.lemmas.List.Elements.{All-cons, All-head, All-nil, All-tail}
use Rattle.gixobj_actor.specs.Actor.{BeginsWithActor}
use Rattle.gixobj_grammar.specs.TagPrefix.{BeginsTag, IsTagBody, IsTaggerLine, encode_tagger, encode_target_lines}
use Rattle.gixobj_hash.specs.ByteStrings.{IsByteFree, SplitsAt}
use Rattle.gixobj_hash.specs.FieldFormat.{encode_field}
use Rattle.gixobj_hash.specs.HeaderFormat.{BeginsWithField}
use Rattle.gixobj_hash.specs.Kind.{kind_name}
use Rattle.gixobj_hash.specs.declared.hash.kind.Kind.{Kind}
use Rattle.gixobj_hash.specs.declared.kind.Kind.{Kind as ObjectKind}
use Rattle.gixobj_hash.specs.declared.kind.Kind.TheVariants as object
use Rattle.gixobj_hash.proofs.Splits.{byte_free_of_all_pass}
use Rattle.gixobj_parse.proofs.HeaderFields.{hex_digits_newline_free}
use Rattle.gixobj_fsck.specs.Actors.{ActorPart, IsAfterLine}
use Rattle.gixobj_fsck.specs.Dates.{BeginsWithByte}
use Rattle.gixobj_fsck.specs.Headers.{EndsInNewline, HasEmptyLine, HeaderPart, IsUnterminated}
use Rattle.gixobj_fsck.specs.Spans.{EndsSpan, IsSpan, is_of_class}
use Rattle.gixobj_fsck.specs.declared.spans.Class.TheVariants as class
use Rattle.gixobj_fsck.proofs.Outcomes.{after_line_unique, after_name_unique}
use Rattle.gixobj_fsck_messages.specs.declared.message.Message.{Message}
use Rattle.gixobj_fsck_messages.specs.declared.message.Message.TheVariants as message
use Rattle.gixobj_fsck_tags.specs.Tags.{HasExtraHeader, IsAfterTagger, IsTagMessage, NamePart, TaggerLine}
use Rattle.gixobj_fsck_tags.proofs.TagOutcomes.{name_part_deterministic}
use Rattle.gixobj_fsck_object_laws.proofs.ActorLines.{name_bytes_free}
use Rattle.gixobj_fsck_object_laws.specs.DecodedTags.{HasLimitedMessages, IsAboutDecodedTags}

-- ---- the end of the header

empty_line : (opening rest : List ℕ) → HasEmptyLine (opening ++ 10 ∷ (10 ∷ rest))
empty_line [] rest = (0, (refl, refl))
empty_line (byte ∷ opening) rest = let more = empty_line opening rest in
    (suc more.0, (more.1.0, later byte (opening ++ 10 ∷ (10 ∷ rest)) more.0 more.1.1))
  where
    later : (byte : ℕ) (bytes : List ℕ) (position : ℕ) → get_or bytes (position + 1) 0 ≡ 10 → get_or (byte ∷ bytes) (suc position + 1) 0 ≡ 10
    later byte bytes position is =
        ap (λ (n : ℕ). get_or (byte ∷ bytes) n 0) (add-one (suc position)) ∙ (ap (λ (n : ℕ). get_or bytes n 0) (sym (add-one position)) ∙ is)

last_newline : (opening : List ℕ) → EndsInNewline (opening ++ 10 ∷ [])
last_newline [] = (0, refl, refl)
last_newline (byte ∷ opening) =
    let more = last_newline opening in
    let long : more.0 + 1 ≡ length (opening ++ 10 ∷ []) = more.1 in (suc more.0, omega (arith, long), more.2)

-- the header of lines before a body has an end
not_unterminated : (opening body : List ℕ) → IsTagBody body → ¬ IsUnterminated (opening ++ 10 ∷ body)
not_unterminated opening [] is unterminated = unterminated.1 (last_newline opening)
not_unterminated opening (byte ∷ rest) is unterminated =
    unterminated.0 (subst (λ (it : ℕ). HasEmptyLine (opening ++ 10 ∷ (it ∷ rest))) (sym is) (empty_line opening rest))

-- lines before a body end in a newline
opening_of_tagger : (lines name body : List ℕ) (tagger : Option (List ℕ))
    → (opening : List ℕ) × ((lines ++ encode_field (codes "tag") name ++ encode_tagger tagger) ++ body ≡ opening ++ 10 ∷ body)
opening_of_tagger lines name body None = (lines ++ (codes "tag" ++ 32 ∷ name), go lines name)
  where
    go : (lines name : List ℕ) → (lines ++ encode_field (codes "tag") name ++ []) ++ body ≡ (lines ++ (codes "tag" ++ 32 ∷ name)) ++ 10 ∷ body
    go lines name = simp append_assoc
opening_of_tagger lines name body (Some line) = ((lines ++ encode_field (codes "tag") name) ++ (codes "tagger" ++ 32 ∷ line), go lines name line)
  where
    go : (lines name line : List ℕ) → (lines ++ encode_field (codes "tag") name ++ encode_field (codes "tagger") line) ++ body
        ≡ ((lines ++ encode_field (codes "tag") name) ++ (codes "tagger" ++ 32 ∷ line)) ++ 10 ∷ body
    go lines name line = simp append_assoc

-- ---- the lines up to the name

kind_free : (kind : ObjectKind) → IsByteFree 10 (kind_name kind)
kind_free object.Tree = byte_free_of_all_pass 10 (kind_name object.Tree) refl
kind_free object.Blob = byte_free_of_all_pass 10 (kind_name object.Blob) refl
kind_free object.Commit = byte_free_of_all_pass 10 (kind_name object.Commit) refl
kind_free object.Tag = byte_free_of_all_pass 10 (kind_name object.Tag) refl

name_part : (kind : Kind) (tag body : List ℕ) (it : BeginsTag kind tag body) → HeaderPart tag (Ok tag)
    → NamePart kind tag (Ok (encode_tagger it.tagger ++ body))
name_part kind tag body it header =
    let last = encode_tagger it.tagger ++ body in
    let named = encode_field (codes "tag") it.name ++ last in
    let typed = encode_field (codes "type") (kind_name it.target_kind) ++ named in
    let joined : tag ≡ encode_field (codes "object") it.target ++ typed = it.joined ∙ shuffle (encode_field (codes "object") it.target)
    (encode_field (codes "type") (kind_name it.target_kind)) (encode_field (codes "tag") it.name) (encode_tagger it.tagger) in (
      named,
      (
        tag,
        header,
        (
          typed,
          (it.target, (record { joined = joined; one_line = hex_digits_newline_free it.target it.is_target.1 }, it.is_target)),
          (it.target_kind, record { joined = refl; one_line = kind_free it.target_kind }),
        ),
      ),
      (it.name, record { joined = refl; one_line = it.is_name.1 }),
    )
  where
    shuffle : (object type name tagger : List ℕ)
        → ((object ++ type) ++ name ++ tagger) ++ body ≡ object ++ (type ++ (name ++ (tagger ++ body)))
    shuffle object type name tagger = simp append_assoc

-- ---- the tagger

no_tagger_in_body : (body actor : List ℕ) → IsTagBody body → body ≡ codes "tagger" ++ 32 ∷ actor → ⊥
no_tagger_in_body [] actor is same = cc same
no_tagger_in_body (byte ∷ body) actor is same = let first : ◌≡◌ {A = ℕ} byte 116 = cc same in omega (arith, is, first)

actor_of_tagger : (line body actor : List ℕ) → encode_field (codes "tagger") line ++ body ≡ codes "tagger" ++ 32 ∷ actor → actor ≡ line ++ 10 ∷ body
actor_of_tagger line body actor same =
    sym (after_name_unique (codes "tagger") (encode_field (codes "tagger") line ++ body) (line ++ 10 ∷ body) actor (shuffle line) same)
  where
    shuffle : (line : List ℕ) → encode_field (codes "tagger") line ++ body ≡ codes "tagger" ++ 32 ∷ (line ++ 10 ∷ body)
    shuffle line = simp append_assoc

-- before `<` comes no end of a line: the name ends at a bracket
bracket_comes : (named rest name after : List ℕ) → IsByteFree 10 named → named ++ 60 ∷ rest ≡ name ++ after → IsSpan class.Name (name ++ after) name after
    → BeginsWithByte 60 after ⊎ BeginsWithByte 62 after
bracket_comes named rest name after free same span = go named name free same span.within span.ends
  where
    other : (byte : ℕ) → (¬ IsTrue (is_of_class class.Name byte)) → byte ≢ 10 → (byte ≡ 60) ⊎ (byte ≡ 62)
    other byte ends free = grind (arith, nat_tests, ends, free)

    begins : (byte : ℕ) (after : List ℕ) → (byte ≡ 60) ⊎ (byte ≡ 62) → BeginsWithByte 60 (byte ∷ after) ⊎ BeginsWithByte 62 (byte ∷ after)
    begins byte after (inl is) = inl (after, ap (λ (it : ℕ). it ∷ after) is)
    begins byte after (inr is) = inr (after, ap (λ (it : ℕ). it ∷ after) is)

    first : (byte : ℕ) (more after : List ℕ) → byte ∷ more ≡ after → byte ≢ 10 → EndsSpan class.Name after
        → BeginsWithByte 60 after ⊎ BeginsWithByte 62 after
    first byte more after same free ends = subst (λ (it : List ℕ). BeginsWithByte 60 it ⊎ BeginsWithByte 62 it) same
        (begins byte more (other byte (subst (EndsSpan class.Name) (sym same) ends) free))

    go : (named name : List ℕ) → IsByteFree 10 named → named ++ 60 ∷ rest ≡ name ++ after → list_all (is_of_class class.Name) name ≡ true
        → EndsSpan class.Name after → BeginsWithByte 60 after ⊎ BeginsWithByte 62 after
    go [] [] free same all ends = inl (rest, sym same)
    go [] (byte ∷ name) free same all ends =
        let head : byte ≡ 60 = cc same in absurd (All-head (λ it. it ≢ 60) byte name (name_bytes_free (byte ∷ name) all).0 head)
    go (byte ∷ named) [] free same all ends = first byte (named ++ 60 ∷ rest) after same (All-head (λ it. it ≢ 10) byte named free) ends
    go (byte ∷ named) (head ∷ name) free same all ends =
        let tails : named ++ 60 ∷ rest ≡ name ++ after = cc same in
        go named name (All-tail (λ it. it ≢ 10) byte named free) tails
        (and_parts (is_of_class class.Name head) (list_all (is_of_class class.Name) name) all).1 ends

free_of_opening : (opening bytes : List ℕ) → IsByteFree 10 (opening ++ bytes) → IsByteFree 10 opening
free_of_opening [] bytes free = All-nil (λ it. it ≢ 10)
free_of_opening (byte ∷ opening) bytes free =
    All-cons (λ it. it ≢ 10) byte opening (All-head (λ it. it ≢ 10) byte (opening ++ bytes) free)
    (free_of_opening opening bytes (All-tail (λ it. it ≢ 10) byte (opening ++ bytes) free))

-- an actor that decodes has a bracket
no_missing_email : (line body actor name rest : List ℕ) → BeginsWithActor line → actor ≡ line ++ 10 ∷ body → IsSpan class.Name actor name rest
    → (¬ BeginsWithByte 60 rest) → (¬ BeginsWithByte 62 rest) → ⊥
no_missing_email line body actor name rest (n, email, time, more, it) is span no_less no_greater =
    let tail = email ++ 62 ∷ (it.gap ++ (time ++ more)) in
    let joined : line ≡ it.name_bytes ++ 60 ∷ tail = it.joined ∙ sym (nested it.name_bytes it.gap) in
    let free = free_of_opening it.name_bytes (60 ∷ tail) (subst (IsByteFree 10) joined it.one_line) in
    let all : it.name_bytes ++ 60 ∷ (tail ++ 10 ∷ body) ≡ name ++ rest =
    sym (append_assoc it.name_bytes (60 ∷ tail) (10 ∷ body)) ∙ ap (λ (i : List ℕ). i ++ 10 ∷ body) (sym joined) ∙ sym is ∙ span.joined in
    let own : IsSpan class.Name (name ++ rest) name rest = record { joined = refl; within = span.within; ends = span.ends } in
    elim (bracket_comes it.name_bytes (tail ++ 10 ∷ body) name rest free all own) [ inl less ↦ no_less less | inr greater ↦ no_greater greater ]
  where
    nested : (named gap : List ℕ) → named ++ 60 ∷ (email ++ 62 ∷ (gap ++ (time ++ more))) ≡ named ++ 60 ∷ email ++ 62 ∷ gap ++ time ++ more
    nested named gap = simp append_assoc

-- the fault of the tagger of a tag that decodes
fault_of_tagger : (line body actor : List ℕ) (fault : Message) → BeginsWithActor line → actor ≡ line ++ 10 ∷ body → ActorPart actor (Err fault)
    → IsAboutDecodedTags fault
fault_of_tagger line body actor fault begins is (inl (inl a)) = subst IsAboutDecodedTags (sym a.1) tt
fault_of_tagger line body actor fault begins is (inl (inr (inl a))) = subst IsAboutDecodedTags (sym a.3) tt
fault_of_tagger line body actor fault begins is (inl (inr (inr (inl a)))) = absurd (no_missing_email line body actor a.0 a.1 begins is a.2 a.3 a.4)
fault_of_tagger line body actor fault begins is (inl (inr (inr (inr a)))) = subst IsAboutDecodedTags (sym a.5) tt
fault_of_tagger line body actor fault begins is (inr (b, n, inl a)) = subst IsAboutDecodedTags (sym a.4) tt
fault_of_tagger line body actor fault begins is (inr (b, n, inr (c, e, inl (inl a)))) = subst IsAboutDecodedTags (sym a.1) tt
fault_of_tagger line body actor fault begins is (inr (b, n, inr (c, e, inl (inr a)))) = subst IsAboutDecodedTags (sym a.3) tt
fault_of_tagger line body actor fault begins is (inr (b, n, inr (c, e, inr (d, s, inl (inl a))))) = subst IsAboutDecodedTags (sym a.4) tt
fault_of_tagger line body actor fault begins is (inr (b, n, inr (c, e, inr (d, s, inl (inr (inl a)))))) = subst IsAboutDecodedTags (sym a.1) tt
fault_of_tagger line body actor fault begins is (inr (b, n, inr (c, e, inr (d, s, inl (inr (inr a)))))) = subst IsAboutDecodedTags (sym a.5) tt
fault_of_tagger line body actor fault begins is (inr (b, n, inr (c, e, inr (d, s, inr (f, m, a))))) = subst IsAboutDecodedTags (sym a.1) tt

tagger_message : (body : List ℕ) (tagger : Option (List ℕ)) (fault : Message) → IsTagBody body → IsTaggerLine tagger
    → TaggerLine (encode_tagger tagger ++ body) (Err fault) → IsAboutDecodedTags fault
tagger_message body tagger fault is begins (inl missing) = subst IsAboutDecodedTags (sym missing.1) tt
tagger_message body None fault is begins (inr (actor, same, part)) = absurd (no_tagger_in_body body actor is same)
tagger_message body (Some line) fault is begins (inr (actor, same, part)) =
    fault_of_tagger line body actor fault begins (actor_of_tagger line body actor same) part

-- the body comes after the tagger
after_tagger : (body : List ℕ) (tagger : Option (List ℕ)) (after : List ℕ) → IsTagBody body → IsTaggerLine tagger
    → IsAfterTagger (encode_tagger tagger ++ body) after → after ≡ body
after_tagger body None after is begins (inl none) = none.1
after_tagger body None after is begins (inr (actor, same, follows)) = absurd (no_tagger_in_body body actor is same)
after_tagger body (Some line) after is begins (inl none) = absurd (none.0 (line ++ 10 ∷ body) (shuffle line))
  where
    shuffle : (line : List ℕ) → encode_field (codes "tagger") line ++ body ≡ codes "tagger" ++ 32 ∷ (line ++ 10 ∷ body)
    shuffle line = simp append_assoc
after_tagger body (Some line) after is begins (inr (actor, same, follows)) =
    let joined = actor_of_tagger line body actor same in
    let split : SplitsAt 10 actor line body = record { joined = joined; first = begins.4.one_line } in
    after_line_unique actor after body follows (inl (line, split))

-- ---- tags

header_outcome : (kind : Kind) (tag : List ℕ) (fault : Message) → NamePart kind tag (Err fault) → HeaderPart tag (Err fault) ⊎ HeaderPart tag (Ok tag)
header_outcome kind tag fault (inl (inl header)) = inl header
header_outcome kind tag fault (inl (inr (start, header, more))) = inr (header.0, header.1, refl)
header_outcome kind tag fault (inr (between, (start, header, more), named)) = inr (header.0, header.1, refl)

-- the input after the name of a tag that decodes
after_name : (kind : Kind) (tag body rest : List ℕ) (it : BeginsTag kind tag body) → NamePart kind tag (Ok rest) → rest ≡ encode_tagger it.tagger ++ body
after_name kind tag body rest it (between, (start, header, more), named) =
    let same = name_part_deterministic kind tag (Ok rest) (Ok (encode_tagger it.tagger ++ body)) (between, (start, header, more), named)
    (name_part kind tag body it (header.0, header.1, refl)) in
    cc same

name_message : (kind : Kind) (tag body : List ℕ) (fault : Message) (it : BeginsTag kind tag body) → IsTagBody body → NamePart kind tag (Err fault)
    → IsAboutDecodedTags fault
name_message kind tag body fault it is faulty = elim (header_outcome kind tag fault faulty) [
  | inl (inl nul) ↦ subst IsAboutDecodedTags (sym nul.1) tt
  | inl (inr end) ↦
      let opening = opening_of_tagger (encode_target_lines (encode_field (codes "object") it.target) it.target_kind) it.name body it.tagger in
      absurd (not_unterminated opening.0 body is (subst IsUnterminated (it.joined ∙ opening.1) end.1))
  | inr header ↦
      let e = name_part_deterministic kind tag (Err fault) (Ok (encode_tagger it.tagger ++ body)) faulty (name_part kind tag body it header) in
      absurd (cc e)
]

-- git has limited messages about a tag that decodes
pub limited_messages : (kind : Kind) (tag : List ℕ) → HasLimitedMessages kind tag
limited_messages kind tag (body, it, is) = (messages, no_extra)
  where
    messages : (fault : Message) → IsTagMessage kind tag fault → IsAboutDecodedTags fault
    messages fault (inl faulty) = name_message kind tag body fault it is faulty
    messages fault (inr (inl (start, name, rest, target, field, bad))) = subst IsAboutDecodedTags (sym bad.1) tt
    messages fault (inr (inr (rest, named, tagger))) =
        tagger_message body it.tagger fault is it.is_tagger
        (subst (λ (i : List ℕ). TaggerLine i (Err fault)) (after_name kind tag body rest it named) tagger)

    no_header : (body after : List ℕ) → IsTagBody body → after ≡ body → after ≢ [] → (¬ BeginsWithByte 10 after) → ⊥
    no_header [] after is same filled other = filled same
    no_header (byte ∷ body) after is same filled other = other (body, same ∙ ap (λ (i : ℕ). i ∷ body) is)

    no_extra : ¬ HasExtraHeader kind tag
    no_extra (rest, after, named, follows, filled, other) =
        let same = after_tagger body it.tagger after is it.is_tagger
        (subst (λ (i : List ℕ). IsAfterTagger i after) (after_name kind tag body rest it named) follows) in
        no_header body after is same filled other
