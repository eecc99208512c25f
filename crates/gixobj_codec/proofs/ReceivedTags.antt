-- States what a signature that is found in the encoding of a tag signs, for the law on received tags. No marker is before
-- the body, so the signed bytes begin with the lines of the tag.
use Rattle.std.proofs.Common.{◌≡◌, ◌≢◌, ◌≤◌, ◌∙◌, ℕ, List, [], ◌∷◌, ◌++◌, Option, Some, None, append_assoc, ap, arith, codes, length, refl, subst, sym}
use Rattle.std.proofs.lemmas.List.{append_cancel_right}
use Rattle.gixobj_parse.proofs.HeaderFields.{field_unique, first_bytes_eq}
use Rattle.gixobj_hash.specs.HeaderFormat.{BeginsWithField}
use Rattle.gixobj_hash.specs.FieldFormat.{encode_field}
use Rattle.gixobj_hash.proofs.Headers.{kind_keyword_injective}
use Rattle.gixobj_hash.specs.Kind.{kind_name}
use Rattle.gixobj_hash.specs.declared.hash.kind.Kind.{Kind}
use Rattle.gixobj_grammar.proofs.TagLines.{tagger_unique}
use Rattle.gixobj_grammar.specs.TagLines.{BeginsWithTagger}
use Rattle.gixobj_grammar.specs.TagPrefix.{IsTag}
use Rattle.gixobj_grammar.specs.TagSignatures.{HasTagSignature}
use Rattle.gixobj_tag.proofs.EntireTags.{Reads, parts_of_decoded_tag}
use Rattle.gixobj_tag.specs.Rewriting.{PreservesBody}
use Rattle.gixobj_tag.specs.TagFormat.{DecodesToTag, TagLines, encode_tag_lines, encode_tagger}
use Rattle.gixobj_grammar.specs.TagBodies.{IsBody, after_a_newline, newlines_alone}
use Rattle.gixobj_tag.specs.TagSigning.{payload_of_tag, signed_as}
use Rattle.gixobj_tag.specs.TagWriting.{encode_tag}
use Rattle.gixobj_parse.proofs.MarkerPlaces.{no_marker_and_marker_place}
use Rattle.gixobj_parse.specs.declared.signature.Format.{Format}
use Rattle.gixobj_codec.proofs.TagsAgree.{AreAfter, IsFoundIn, after_lines, after_newline_alone, also_after, lines_joined, no_marker_in_newlines, one_signature}
use Rattle.gixobj_codec.proofs.TagsAgree.{tag_found}
use Rattle.gixobj_codec.proofs.TagsExtracted.{prefix_of_append_eq, has_marker_at_after_prefix, signed_tag_bytes}
use Rattle.gixobj_codec.specs.ReceivedSignatures.{HasSameLines, SignsTag}

-- the signed bytes are the lines before the body, a newline and more
abbrev BeginsWithLines : List ℕ → List ℕ → Type 0
BeginsWithLines lines signed = (more : List ℕ) × (signed ≡ lines ++ 10 ∷ more)

signed_data_begins_with_lines : (lines body message signature signed : List ℕ) (own : Option (List ℕ)) (format : Format) → AreAfter lines body
    → IsBody body message own → HasTagSignature (lines ++ body) signature signed format → BeginsWithLines lines signed
signed_data_begins_with_lines lines body message signature signed own format after (newlines_alone _ are) has =
    let len_le = after has.position format has.is_marker_place.here in
    absurd (no_marker_in_newlines body are _ format (has_marker_at_after_prefix lines body has.position format len_le has.is_marker_place.here))
signed_data_begins_with_lines lines body message signature signed own format after (after_a_newline _ content _ _ joined more parted) has =
    let ahead : AreAfter (lines ++ 10 ∷ []) content =
    also_after lines (10 ∷ []) content (subst (λ (it : List ℕ). AreAfter lines it) joined after) (after_newline_alone content) in
    let flat : (lines ++ 10 ∷ []) ++ content ≡ lines ++ body = append_assoc lines (10 ∷ []) content ∙ ap (λ (it : List ℕ). lines ++ it) (sym joined) in
    let there : HasTagSignature ((lines ++ 10 ∷ []) ++ content) signature signed format =
    subst (λ (it : List ℕ). HasTagSignature it signature signed format) (sym flat) has in
    let len_le : length (lines ++ 10 ∷ []) ≤ there.position = ahead there.position format there.is_marker_place.here in
    let parts = prefix_of_append_eq (lines ++ 10 ∷ []) content signed signature there.joined (omega (arith, len_le, there.as_long)) in
    (parts.0, parts.1 ∙ append_assoc lines (10 ∷ []) parts.0)

-- ---- the same lines

begins_with_tagger_of_encode_tagger : (tagger : Option (List ℕ)) (input body more : List ℕ) → BeginsWithTagger input tagger body
    → BeginsWithTagger (encode_tagger tagger ++ 10 ∷ more) tagger (10 ∷ more)
begins_with_tagger_of_encode_tagger None input body more has = (λ rest same. no_tagger more rest same, refl)
  where
    no_tagger : (more rest : List ℕ) → 10 ∷ more ≢ codes "tagger" ++ 32 ∷ rest
    no_tagger more rest same = let first : 10 ≡ 116 = first_bytes_eq 10 116 _ _ same in absurd (omega (arith, first))
begins_with_tagger_of_encode_tagger (Some line) input body more has = (record { joined = refl; one_line = has.0.one_line }, has.1)

-- tags whose encodings begin with the same lines have the same lines
has_same_lines_of_signed_data : (kind : Kind) (content signed more : List ℕ) (tag read : TagLines) → Reads kind content tag
    → signed ≡ encode_tag_lines tag ++ 10 ∷ more
    → Reads kind signed read → HasSameLines tag read
has_same_lines_of_signed_data kind content signed more tag read reads joined again =
    let object = encode_field (codes "object") tag.target in
    let type = encode_field (codes "type") (kind_name tag.target_kind) in
    let name = encode_field (codes "tag") tag.name in
    let tagger = encode_tagger tag.tagger in
    let flat : (((object ++ type) ++ name) ++ tagger) ++ (10 ∷ more) ≡ object ++ (type ++ (name ++ (tagger ++ 10 ∷ more))) = simp append_assoc in
    let after_name = tagger ++ 10 ∷ more in
    let after_kind = name ++ after_name in
    let after_target = type ++ after_kind in
    let target = field_unique (codes "object") signed read.target again.after_target tag.target after_target again.target.0
    (record { joined = joined ∙ flat; one_line = reads.target.0.one_line }) in
    let typed = field_unique (codes "type") after_target (kind_name read.target_kind) again.after_kind (kind_name tag.target_kind) after_kind
    (subst (λ (it : List ℕ). BeginsWithField (codes "type") it (kind_name read.target_kind) again.after_kind) target.1 again.target_kind)
    (record { joined = refl; one_line = reads.target_kind.one_line }) in
    let named = field_unique (codes "tag") after_kind read.name again.after_name tag.name after_name
    (subst (λ (it : List ℕ). BeginsWithField (codes "tag") it read.name again.after_name) typed.1 again.name.0)
    (record { joined = refl; one_line = reads.name.0.one_line }) in
    let tagged = tagger_unique after_name read.tagger tag.tagger again.body (10 ∷ more)
    (subst (λ (it : List ℕ). BeginsWithTagger it read.tagger again.body) named.1 again.tagger)
    (begins_with_tagger_of_encode_tagger tag.tagger reads.after_name reads.body more reads.tagger) in
    record {
      target = target.0;
      target_kind = kind_keyword_injective read.target_kind tag.target_kind typed.0;
      name = named.0;
      tagger = tagged.0;
    }

-- ---- what is signed

module _ (kind : Kind) (content : List ℕ) (tag : TagLines) (is : DecodesToTag kind content tag) (signature signed : List ℕ) (format : Format)
    (has : HasTagSignature content signature signed format) where
  abbrev OwnSignature : Option (List ℕ) → Type 0
  OwnSignature own = own ≡ Some signature

  found_by : (own : Option (List ℕ)) → IsFoundIn content own → OwnSignature own
  found_by None none = absurd (no_marker_and_marker_place content has.position format has.is_marker_place none)
  found_by (Some bytes) (before, other, found) =
      ap Some (one_signature content bytes signature before signed other format found has).0

  own_signature : tag.signature ≡ Some signature
  own_signature = found_by tag.signature (tag_found kind content tag (parts_of_decoded_tag kind content tag is))

  payload_signed : (PreservesBody tag → encode_tag tag ≡ content) → PreservesBody tag → signed ≡ payload_of_tag tag
  payload_signed reencodes keeps =
      let again : encode_tag (signed_as (Some signature) tag) ≡ content =
      ap (λ (it : Option (List ℕ)). encode_tag (signed_as it tag)) (sym own_signature) ∙ reencodes keeps in
      append_cancel_right signed (payload_of_tag tag) signature (sym has.joined ∙ sym again ∙ signed_tag_bytes tag signature)

  lines_signed : BeginsWithLines (encode_tag_lines tag) signed
  lines_signed =
      let reads = parts_of_decoded_tag kind content tag is in
      signed_data_begins_with_lines (encode_tag_lines tag) reads.body tag.message signature signed tag.signature format (after_lines kind content tag reads)
      reads.parted
      (subst (λ (it : List ℕ). HasTagSignature it signature signed format) (lines_joined kind content tag reads) has)

  is_tag : IsTag kind signed
  is_tag = (
    10 ∷ lines_signed.0,
    record {
      target = tag.target;
      target_kind = tag.target_kind;
      name = tag.name;
      tagger = tag.tagger;
      joined = lines_signed.1;
      is_target = is.target;
      is_name = is.name;
      is_tagger = is.tagger;
    },
    refl,
  )

  same_lines : (read : TagLines) → DecodesToTag kind signed read → HasSameLines tag read
  same_lines read again = has_same_lines_of_signed_data kind content signed lines_signed.0 tag read (parts_of_decoded_tag kind content tag is) lines_signed.1
      (parts_of_decoded_tag kind signed read again)

  pub signs_tag : (PreservesBody tag → encode_tag tag ≡ content) → (IsTag kind signed → (read : TagLines) × DecodesToTag kind signed read)
      → SignsTag kind tag signature signed
  signs_tag reencodes decodes = record {
    value = own_signature;
    payload = payload_signed reencodes;
    decoded = decodes is_tag;
    lines = same_lines;
  }
