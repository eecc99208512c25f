-- Lemmas that a decoded tag is encoded identically, and that its owned form has its fields, for the laws of tags.
use Rattle.std.proofs.Common.{◌≡◌, ◌≢◌, ◌⊎◌, ℕ, List, ◌∷◌, ◌++◌, IsFalse, IsTrue, Option, Some, None, ap, inl, inr, refl, subst, sym, ◌∙◌}
use Rattle.std.proofs.lemmas.Bool.{true≢false}
use Rattle.std.proofs.lemmas.List.{append-nil}
use Rattle.bstr.specs.Owned.{bstring_bytes}
use Rattle.gixobj_actor.proofs.OwnedActors.{encode_owned_actor_is_canonical, is_unwritable_of_error}
use Rattle.gixobj_actor.specs.declared.actor.Signature.{Signature}
use Rattle.gixobj_streams.specs.Streams.{SinkView}
use Rattle.gixobj_streams.specs.Writing.{RejectedValue, RejectsNothing, IsWritingError, bad_name, empty_header, header_with_newline, illegal_actor}
use Rattle.gixobj_streams.specs.Writing.{name_with_dash, name_with_zero_byte}
use Rattle.gixobj_streams.specs.declared.encode.Error.{Error}
use Rattle.gixobj_streams.specs.declared.encode.Error.TheVariants as encode
use Rattle.gixobj_streams.specs.declared.encode.RefNameFault.{RefNameFault}
use Rattle.gixobj_hash.proofs.HexCase.{encode_id_hex_lower_case}
use Rattle.gixobj_hash.specs.declared.hash.kind.Kind.{Kind}
use Rattle.gixobj_tag.specs.NameRule.{BeginsWithDash, HasNoFault, IsFirstFault, IsTagName}
use Rattle.gixobj_tag.specs.Rewriting.{AreNormalizedPartsOfTag, HasUnwritableTagger, IsCanonicalTagger, PreservesBody, IsNormalizedTagError, canonical_tagger}
use Rattle.gixobj_tag.specs.Rewriting.{no_tagger}
use Rattle.gixobj_tag.specs.TagOwned.{IsOwnedFormOfTag, IsOwnedTagger}
use Rattle.gixobj_tag.specs.TagFormat.{DecodesToTag, TagLines, encode_tag_lines}
use Rattle.gixobj_grammar.specs.TagBodies.{IsBody, IsParted, are_newlines, after_a_newline, newlines_alone, signed, signed_at_once, unsigned}
use Rattle.gixobj_tag.specs.TagViews.{owned_tag_lines, owned_tagger}
use Rattle.gixobj_tag.specs.TagWriting.{IsTagLinesError, IsOwnedTagError, IsNameValueError, IsTaggerError, encode_body, encode_message, encode_tag}
use Rattle.gixobj_tag.specs.declared.tag.Tag.{Tag}

-- ---- bodies

encode_message_of_newlines : (message : List ℕ) → IsTrue (are_newlines message) → encode_message message ≡ message
encode_message_of_newlines message are = rw are refl

encode_message_of_other : (message : List ℕ) → IsFalse (are_newlines message) → encode_message message ≡ 10 ∷ message
encode_message_of_other message more = rw more refl

-- bytes that are split into message and signature are encoded identically, after a newline
encode_body_of_is_parted : (bytes message : List ℕ) (signature : Option (List ℕ)) → IsParted bytes message signature → IsFalse (are_newlines bytes)
    → (signature ≡ None ⊎ IsFalse (are_newlines message)) → encode_body message signature ≡ 10 ∷ bytes
encode_body_of_is_parted bytes message signature (unsigned _ none) more keeps = append-nil (encode_message bytes) ∙ encode_message_of_other bytes more
encode_body_of_is_parted bytes message signature (signed_at_once _ format is) more (inl bare) = absurd (cc bare)
encode_body_of_is_parted bytes message signature (signed_at_once _ format is) more (inr filled) = absurd (true≢false filled)
encode_body_of_is_parted bytes message signature (signed _ _ rest format joined is) more (inl bare) = absurd (cc bare)
encode_body_of_is_parted bytes message signature (signed _ _ rest format joined is) more (inr filled) =
    ap (λ (it : List ℕ). it ++ 10 ∷ rest) (encode_message_of_other message filled) ∙ ap (λ (it : List ℕ). 10 ∷ it) (sym joined)

encode_body_of_is_body : (body message : List ℕ) (signature : Option (List ℕ)) → IsBody body message signature
    → (signature ≡ None ⊎ IsFalse (are_newlines message))
    → encode_body message signature ≡ body
encode_body_of_is_body body message signature (newlines_alone _ are) keeps = append-nil (encode_message body) ∙ encode_message_of_newlines body are
encode_body_of_is_body body message signature (after_a_newline _ bytes _ _ joined more parted) keeps =
    encode_body_of_is_parted bytes message signature parted more keeps
    ∙ sym joined

pub tag_reencodes_identically : (kind : Kind) (bytes : List ℕ) (tag : TagLines) → DecodesToTag kind bytes tag → PreservesBody tag
    → encode_tag tag ≡ bytes
tag_reencodes_identically kind bytes tag is keeps = ap (λ (it : List ℕ). encode_tag_lines tag ++ it)
    (encode_body_of_is_body is.body tag.message tag.signature is.parted keeps) ∙ sym is.joined

-- ---- errors

tag_name_rejects_nothing : (name : List ℕ) (value : RejectedValue) → IsTagName name → IsNameValueError name value → ⊥
tag_name_rejects_nothing name value (faultless, undashed) (inl (fault, first, is)) = faultless fault first.here
tag_name_rejects_nothing name value (faultless, undashed) (inr (none, dash, is)) = undashed dash

pub decoded_tag_rejects_nothing : (tag : TagLines) → IsTagName tag.name → RejectsNothing (IsTagLinesError tag)
decoded_tag_rejects_nothing tag valid value parts (rejected, before) = tag_name_rejects_nothing tag.name value valid rejected

-- ---- the owned form

is_canonical_tagger_of_owned : (line : Option (List ℕ)) (tagger : Option Signature) → IsOwnedTagger line tagger → IsCanonicalTagger line (owned_tagger tagger)
is_canonical_tagger_of_owned None None is = no_tagger
is_canonical_tagger_of_owned None (Some actor) is = absurd is
is_canonical_tagger_of_owned (Some line) None is = absurd is
is_canonical_tagger_of_owned (Some line) (Some actor) is = canonical_tagger line _ (encode_owned_actor_is_canonical line actor is)

pub owned_parts_are_normalized : (lines : TagLines) (tag : Tag) → IsOwnedFormOfTag lines tag → AreNormalizedPartsOfTag lines (owned_tag_lines tag)
owned_parts_are_normalized lines tag is =
    record {
      target = encode_id_hex_lower_case lines.target tag.target is.target;
      target_kind = is.target_kind;
      name = is.name;
      tagger = is_canonical_tagger_of_owned lines.tagger tag.tagger is.tagger;
      message = is.message;
      signature = is.signature;
    }

-- why a value of an owned form is rejected: the name for a fault or a dash, or the tagger
pub data WhatIsRejected (lines : TagLines) : RejectedValue → Type 0 where
  for_a_fault : (value : RejectedValue) (fault : RefNameFault) → value ≡ bad_name fault → IsFirstFault lines.name fault → WhatIsRejected lines value
  for_a_dash : (value : RejectedValue) → value ≡ name_with_dash → HasNoFault lines.name → BeginsWithDash lines.name → WhatIsRejected lines value
  for_the_tagger : (value : RejectedValue) → value ≡ illegal_actor → HasUnwritableTagger lines → WhatIsRejected lines value

what_is_rejected_of_tagger_error : (lines : TagLines) (line : Option (List ℕ)) (tagger : Option Signature) (value : RejectedValue) (parts : List ℕ)
    → lines.tagger ≡ line
    → IsOwnedTagger line tagger → IsTaggerError tagger value parts → WhatIsRejected lines value
what_is_rejected_of_tagger_error lines None None value parts same is rejected = absurd rejected
what_is_rejected_of_tagger_error lines None (Some actor) value parts same is rejected = absurd is
what_is_rejected_of_tagger_error lines (Some line) None value parts same is rejected = absurd rejected
what_is_rejected_of_tagger_error lines (Some line) (Some actor) value parts same is (illegal, it, before) =
    for_the_tagger value it (line, same, is_unwritable_of_error line actor is illegal)

what_is_rejected_of_tag_error : (lines : TagLines) (tag : Tag) (value : RejectedValue) (parts : List ℕ) → IsOwnedFormOfTag lines tag
    → IsOwnedTagError tag value parts
    → WhatIsRejected lines value
what_is_rejected_of_tag_error lines tag value parts own (inl (inl (fault, first, it), before)) =
    for_a_fault value fault it (subst (λ (name : List ℕ). IsFirstFault name fault) own.name first)
what_is_rejected_of_tag_error lines tag value parts own (inl (inr (none, dash, it), before)) = for_a_dash value it (subst HasNoFault own.name none)
    (subst BeginsWithDash own.name dash)
what_is_rejected_of_tag_error lines tag value parts own (inr (valid, (line, rejected, before))) =
    what_is_rejected_of_tagger_error lines lines.tagger tag.tagger value line refl own.tagger rejected

rejected_value_cases : (lines : TagLines) (value : RejectedValue) → WhatIsRejected lines value → ((fault : RefNameFault) → value ≢ bad_name fault)
    → value ≢ name_with_dash
    → value ≢ illegal_actor → ⊥
rejected_value_cases lines value (for_a_fault _ fault it first) no_fault no_dash no_tagger_rejected = no_fault fault it
rejected_value_cases lines value (for_a_dash _ it none dash) no_fault no_dash no_tagger_rejected = no_dash it
rejected_value_cases lines value (for_the_tagger _ it has) no_fault no_dash no_tagger_rejected = no_tagger_rejected it

bad_name_injective : (a b : RefNameFault) → bad_name a ≡ bad_name b → a ≡ b
bad_name_injective a b same = cc same

first_fault_of_rejected_name : (lines : TagLines) (fault : RefNameFault) → WhatIsRejected lines (bad_name fault) → IsFirstFault lines.name fault
first_fault_of_rejected_name lines fault (for_a_fault _ other it first) = subst (IsFirstFault lines.name) (sym (bad_name_injective fault other it)) first
first_fault_of_rejected_name lines fault (for_a_dash _ it none dash) = absurd (cc it)
first_fault_of_rejected_name lines fault (for_the_tagger _ it has) = absurd (cc it)

begins_with_dash_of_rejected_name : (lines : TagLines) → WhatIsRejected lines name_with_dash → HasNoFault lines.name × BeginsWithDash lines.name
begins_with_dash_of_rejected_name lines (for_a_fault _ other it first) = absurd (cc it)
begins_with_dash_of_rejected_name lines (for_a_dash _ it none dash) = (none, dash)
begins_with_dash_of_rejected_name lines (for_the_tagger _ it has) = absurd (cc it)

unwritable_tagger_of_rejected : (lines : TagLines) → WhatIsRejected lines illegal_actor → HasUnwritableTagger lines
unwritable_tagger_of_rejected lines (for_a_fault _ other it first) = absurd (cc it)
unwritable_tagger_of_rejected lines (for_a_dash _ it none dash) = absurd (cc it)
unwritable_tagger_of_rejected lines (for_the_tagger _ it has) = has

pub owned_error_is_normalized : (lines : TagLines) (tag : Tag) (before after : SinkView) (error : Error) → IsOwnedFormOfTag lines tag
    → IsWritingError (IsOwnedTagError tag) before after (encode_tag (owned_tag_lines tag)) error
    → IsNormalizedTagError lines before after (encode_tag (owned_tag_lines tag)) error
owned_error_is_normalized lines tag before after (encode.Writer cause) own says = says
owned_error_is_normalized lines tag before after (encode.InvalidRefName fault) own (parts, rejected, inserts) =
    first_fault_of_rejected_name lines fault (what_is_rejected_of_tag_error lines tag (bad_name fault) parts own rejected)
owned_error_is_normalized lines tag before after encode.StartsWithDash own (parts, rejected, inserts) =
    begins_with_dash_of_rejected_name lines (what_is_rejected_of_tag_error lines tag name_with_dash parts own rejected)
owned_error_is_normalized lines tag before after encode.IllegalActor own (parts, rejected, inserts) =
    unwritable_tagger_of_rejected lines (what_is_rejected_of_tag_error lines tag illegal_actor parts own rejected)
owned_error_is_normalized lines tag before after encode.EmptyValue own (parts, rejected, inserts) =
    rejected_value_cases lines _ (what_is_rejected_of_tag_error lines tag empty_header parts own rejected) (λ fault e. cc e) (λ e. cc e) (λ e. cc e)
owned_error_is_normalized lines tag before after (encode.NewlineInHeaderValue value) own (parts, rejected, inserts) =
    rejected_value_cases lines _ (what_is_rejected_of_tag_error lines tag (header_with_newline (bstring_bytes value)) parts own rejected) (λ fault e. cc e)
    (λ e. cc e)
    (λ e. cc e)
owned_error_is_normalized lines tag before after (encode.NullbyteInFilename name) own (parts, rejected, inserts) =
    rejected_value_cases lines _ (what_is_rejected_of_tag_error lines tag (name_with_zero_byte (bstring_bytes name)) parts own rejected) (λ fault e. cc e)
    (λ e. cc e)
    (λ e. cc e)
owned_error_is_normalized lines tag before after encode.OutOfMemory own (value, inl (parts, rejected, inserts)) =
    rejected_value_cases lines _ (what_is_rejected_of_tag_error lines tag (header_with_newline value) parts own rejected) (λ fault e. cc e) (λ e. cc e)
    (λ e. cc e)
owned_error_is_normalized lines tag before after encode.OutOfMemory own (value, inr (parts, rejected, inserts)) =
    rejected_value_cases lines _ (what_is_rejected_of_tag_error lines tag (name_with_zero_byte value) parts own rejected) (λ fault e. cc e) (λ e. cc e)
    (λ e. cc e)
