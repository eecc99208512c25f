-- States that the signature of a decoded tag is the one that is found in its encoding, for the law
-- `tag_signatures_agree`. No line before the body begins with a marker, so the last marker of the encoding is that of
-- the body.
use Rattle.std.proofs.Common.{◌≡◌, ◌≢◌, ◌∙◌, ◌≤◌, ◌+◌, ◌-◌, ap, arith, inl, inr, refl, subst, sym, ℕ, List, [], ◌∷◌, ◌++◌, ◌==◌, ◌&&◌, Bool, true, false}
use Rattle.std.proofs.Common.{IsTrue, Option, Some, None, IfSome, IfNone, append_assoc, append-nil, codes, length, length-append}
use Rattle.std.proofs.lemmas.List.Folds.{list_all-append}
use Rattle.std.proofs.lemmas.List.Elements.{All-append, All-cons, All-head, All-tail}
use Rattle.bstr.specs.BStr.{bstr_bytes}
use Rattle.gixobj_hash.specs.FieldFormat.{encode_field}
use Rattle.gixobj_hash.specs.Kind.{kind_name}
use Rattle.gixobj_hash.specs.declared.hash.kind.Kind.{Kind}
use Rattle.gixobj_parse.proofs.MarkerPlaces.{no_marker_and_marker_place, format_of_marker_unique, marker_place_unique}
use Rattle.gixobj_parse.specs.Markers.{BeginsWithMarker, HasNoMarker, IsMarkerOf, IsMarkerPlace, HasMarkerAt, StartsLine, pgp_message, pgp_signature}
use Rattle.gixobj_parse.specs.Markers.{signed_message, ssh_signature}
use Rattle.gixobj_parse.specs.declared.signature.Format.{Format}
use Rattle.gixobj_parse.specs.declared.signature.SignatureRef.{SignatureRef}
use Rattle.gixobj_tokens.specs.TagExtracting.{FindsSignatureOfTag}
use Rattle.gixobj_grammar.specs.TagSignatures.{HasTagSignature}
use Rattle.gixobj_tag.proofs.EntireTags.{Reads, parts_of_decoded_tag}
use Rattle.gixobj_grammar.specs.TagLines.{BeginsWithTagger}
use Rattle.gixobj_tag.specs.Signed.{IsSignature}
use Rattle.gixobj_tag.specs.TagFormat.{DecodesToTag, TagLines, encode_tag_lines, encode_tagger}
use Rattle.gixobj_grammar.specs.TagBodies.{IsBody, IsParted, are_newlines, after_a_newline, newlines_alone, signed, signed_at_once, unsigned}
use Rattle.gixobj_hash.proofs.Splits.{byte_free_of_all_pass}
use Rattle.gixobj_hash.specs.ByteStrings.{IsByteFree}
use Rattle.gixobj_signature.specs.SignedBytes.{signed_bytes}
use Rattle.gixobj_signature.specs.declared.signature.signed_data.SignedData.{SignedData}
use Rattle.gixobj_codec.proofs.TagsExtracted.{has_marker_at_after_prefix, append_split_unique}
use Rattle.gixobj_codec.specs.SameSignatures.{AreSameSignatures}

-- ---- positions of markers after lines

-- no marker is at a position within the prefix
abbrev pub AreAfter : List ℕ → List ℕ → Type 0
AreAfter leading rest = (position : ℕ) (format : Format) → HasMarkerAt (leading ++ rest) position format → length leading ≤ position

marker_begins_with_dash : (format : Format) (marker : List ℕ) → IsMarkerOf format marker → (rest : List ℕ) × (marker ≡ 45 ∷ rest)
marker_begins_with_dash _ _ pgp_signature = (codes "----BEGIN PGP SIGNATURE-----", refl)
marker_begins_with_dash _ _ pgp_message = (codes "----BEGIN PGP MESSAGE-----", refl)
marker_begins_with_dash _ _ signed_message = (codes "----BEGIN SIGNED MESSAGE-----", refl)
marker_begins_with_dash _ _ ssh_signature = (codes "----BEGIN SSH SIGNATURE-----", refl)

-- bytes that begin with another byte than a marker begin with no marker
no_marker_of_other_byte : (byte : ℕ) (content bytes : List ℕ) (format : Format) → byte ≢ 45 → bytes ≡ byte ∷ content → BeginsWithMarker format bytes → ⊥
no_marker_of_other_byte byte content bytes format other is begins =
    let (rest, dashes) = marker_begins_with_dash format begins.marker begins.known in
    let same : byte ∷ content ≡ 45 ∷ (rest ++ begins.rest) = sym is ∙ begins.joined ∙ ap (λ (it : List ℕ). it ++ begins.rest) dashes in
    other (cc same)

-- the first newline comes after a line without one
line_len_le_lines_len : (line lines rest after : List ℕ) → IsByteFree 10 line → line ++ 10 ∷ rest ≡ lines ++ 10 ∷ after → length line ≤ length lines
line_len_le_lines_len [] lines rest after free same = omega arith
line_len_le_lines_len (byte ∷ line) [] rest after free same = absurd (All-head (λ (it : ℕ). it ≢ 10) byte line free (cc same))
line_len_le_lines_len (byte ∷ line) (other ∷ lines) rest after free same =
    let tail : line ++ 10 ∷ rest ≡ lines ++ 10 ∷ after = cc same in
    let shorter : length line ≤ length lines = line_len_le_lines_len line lines rest after (All-tail (λ (it : ℕ). it ≢ 10) byte line free) tail in
    omega (arith, shorter)

-- a line that begins with another byte than a marker, by the bytes before a position: none, or lines
line_len_le_marker_place : (byte : ℕ) (line rest leading after : List ℕ) (position : ℕ) (format : Format) → byte ≢ 45 → IsByteFree 10 (byte ∷ line)
    → (byte ∷ line) ++ 10 ∷ rest ≡ leading ++ after → length leading ≡ position
    → BeginsWithMarker format after → StartsLine leading → length ((byte ∷ line) ++ 10 ∷ []) ≤ position
line_len_le_marker_place byte line rest leading after position format other free joined as_long begins (inl none) =
    absurd (no_marker_of_other_byte byte (line ++ 10 ∷ rest) after format other (sym (joined ∙ ap (λ (it : List ℕ). it ++ after) none)) begins)
line_len_le_marker_place byte line rest leading after position format other free joined as_long begins (inr (lines, ends)) =
    let bytes_are : (byte ∷ line) ++ 10 ∷ rest ≡ lines ++ 10 ∷ after = joined ∙ ap (λ (it : List ℕ). it ++ after) ends
    ∙ append_assoc lines (10 ∷ []) after in
    let within : length (byte ∷ line) ≤ length lines = line_len_le_lines_len (byte ∷ line) lines rest after free bytes_are in
    let long : length leading ≡ length lines + 1 = ap length ends ∙ length-append lines (10 ∷ []) in
    let longer : length ((byte ∷ line) ++ 10 ∷ []) ≡ length (byte ∷ line) + 1 = length-append (byte ∷ line) (10 ∷ []) in
    omega (arith, within, long, longer, as_long)

are_after_line : (byte : ℕ) (line rest : List ℕ) → byte ≢ 45 → IsByteFree 10 (byte ∷ line) → AreAfter ((byte ∷ line) ++ 10 ∷ []) rest
are_after_line byte line rest other free position format it =
    line_len_le_marker_place byte line rest it.prefix it.rest position format other free (sym (append_assoc (byte ∷ line) (10 ∷ []) rest)
    ∙ it.joined) it.as_long
    it.marked
    it.starts

are_after_field : (byte : ℕ) (name value rest : List ℕ) → byte ≢ 45 → IsByteFree 10 (byte ∷ name) → IsByteFree 10 value
    → AreAfter (encode_field (byte ∷ name) value) rest
are_after_field byte name value rest other named one_line =
    let flat : (byte ∷ (name ++ 32 ∷ value)) ++ 10 ∷ [] ≡ encode_field (byte ∷ name) value = append_assoc (byte ∷ name) (32 ∷ value) (10 ∷ []) in
    let spaced : IsByteFree 10 (32 ∷ value) = All-cons (λ (it : ℕ). it ≢ 10) 32 value (λ same. omega (arith, same)) one_line in
    let free : IsByteFree 10 (byte ∷ (name ++ 32 ∷ value)) = All-append (λ (it : ℕ). it ≢ 10) (byte ∷ name) (32 ∷ value) named spaced in
    subst (λ (leading : List ℕ). AreAfter leading rest) flat (are_after_line byte (name ++ 32 ∷ value) rest other free)

pub also_after : (a b rest : List ℕ) → AreAfter a (b ++ rest) → AreAfter b rest → AreAfter (a ++ b) rest
also_after a b rest after_a after_b position format it =
    let flat : HasMarkerAt (a ++ (b ++ rest)) position format = subst (λ (content : List ℕ). HasMarkerAt content position format)
    (append_assoc a b rest) it in
    let len_le : length a ≤ position = after_a position format flat in
    let more : length b ≤ position - length a = after_b (position - length a) format (has_marker_at_after_prefix a (b ++ rest) position format len_le flat) in
    omega (arith, len_le, more, length-append a b)

-- ---- the lines of a tag

are_after_tagger : (tagger : Option (List ℕ)) (input body : List ℕ) → BeginsWithTagger input tagger body → AreAfter (encode_tagger tagger) body
are_after_tagger None input body has = λ position format it. omega arith
are_after_tagger (Some line) input body has = are_after_field 116 (codes "agger") line body (λ same. omega (arith, same))
    (byte_free_of_all_pass 10 (codes "tagger") refl) has.0.one_line

begins_with_tagger_eq_append : (tagger : Option (List ℕ)) (input body : List ℕ) → BeginsWithTagger input tagger body → input ≡ encode_tagger tagger ++ body
begins_with_tagger_eq_append None input body has = sym has.1
begins_with_tagger_eq_append (Some line) input body has = has.0.joined

-- the lines and the body are the encoding
pub lines_joined : (kind : Kind) (content : List ℕ) (tag : TagLines) → (reads : Reads kind content tag) → content ≡ encode_tag_lines tag ++ reads.body
lines_joined kind content tag reads =
    let object = encode_field (codes "object") tag.target in
    let type = encode_field (codes "type") (kind_name tag.target_kind) in
    let name = encode_field (codes "tag") tag.name in
    let tagger = encode_tagger tag.tagger in
    let flat : (((object ++ type) ++ name) ++ tagger) ++ reads.body ≡ object ++ (type ++ (name ++ (tagger ++ reads.body))) = simp append_assoc in
    reads.target.0.joined
    ∙ ap (λ (rest : List ℕ). object ++ rest)
    (reads.target_kind.joined ∙ ap (λ (rest : List ℕ). type ++ rest)
    (reads.name.0.joined ∙ ap (λ (rest : List ℕ). name ++ rest) (begins_with_tagger_eq_append tag.tagger reads.after_name reads.body reads.tagger)))
    ∙ sym flat

pub after_lines : (kind : Kind) (content : List ℕ) (tag : TagLines) → (reads : Reads kind content tag) → AreAfter (encode_tag_lines tag) reads.body
after_lines kind content tag reads =
    let object = encode_field (codes "object") tag.target in
    let type = encode_field (codes "type") (kind_name tag.target_kind) in
    let name = encode_field (codes "tag") tag.name in
    let tagger = encode_tagger tag.tagger in
    let after_object : AreAfter object (type ++ (name ++ (tagger ++ reads.body))) =
    are_after_field 111 (codes "bject") tag.target _ (λ same. omega (arith, same)) (byte_free_of_all_pass 10 (codes "object") refl) reads.target.0.one_line in
    let after_type : AreAfter type (name ++ (tagger ++ reads.body)) =
    are_after_field 116 (codes "ype") (kind_name tag.target_kind) _ (λ same. omega (arith, same))
    (byte_free_of_all_pass 10 (codes "type") refl) reads.target_kind.one_line in
    let name_after : AreAfter name (tagger ++ reads.body) =
    are_after_field 116 (codes "ag") tag.name _ (λ same. omega (arith, same)) (byte_free_of_all_pass 10 (codes "tag") refl) reads.name.0.one_line in
    also_after ((object ++ type) ++ name) tagger reads.body
    (also_after (object ++ type) name (tagger ++ reads.body) (also_after object type (name ++ (tagger ++ reads.body)) after_object after_type)
    name_after)
    (are_after_tagger tag.tagger reads.after_name reads.body reads.tagger)

one_le_marker_place : (rest leading after : List ℕ) (position : ℕ) (format : Format) → 10 ∷ rest ≡ leading ++ after → length leading ≡ position
    → BeginsWithMarker format after → StartsLine leading → 1 ≤ position
one_le_marker_place rest leading after position format joined as_long begins (inl none) =
    absurd (no_marker_of_other_byte 10 rest after format (λ same. omega (arith, same)) (sym (joined ∙ ap (λ (it : List ℕ). it ++ after) none)) begins)
one_le_marker_place rest leading after position format joined as_long begins (inr (lines, ends)) =
    omega (arith, as_long, ap length ends, length-append lines (10 ∷ []))

pub after_newline_alone : (rest : List ℕ) → AreAfter (10 ∷ []) rest
after_newline_alone rest position format it = one_le_marker_place rest it.prefix it.rest position format it.joined it.as_long it.marked it.starts

-- ---- the marker of the body is that of the encoding

-- the last marker begins this signature in some format; or there is no marker
abbrev pub IsFoundIn : List ℕ → Option (List ℕ) → Type 0
IsFoundIn content None = HasNoMarker content
IsFoundIn content (Some bytes) = (before : List ℕ) × (format : Format) × HasTagSignature content bytes before format

and_true_second : (a b : Bool) → (a && b) ≡ true → b ≡ true
and_true_second true b both = both
and_true_second false b both = cc both

pub no_marker_in_newlines : (body : List ℕ) → IsTrue (are_newlines body) → HasNoMarker body
no_marker_in_newlines body are position format it =
    let both : (are_newlines it.prefix && are_newlines it.rest) ≡ true = sym (list_all-append (λ byte. byte == 10) it.prefix it.rest)
    ∙ ap are_newlines (sym it.joined) ∙ are in
    let rest : are_newlines it.rest ≡ true = and_true_second (are_newlines it.prefix) (are_newlines it.rest) both in
    let (more, dashes) = marker_begins_with_dash format it.marked.marker it.marked.known in
    let begins : it.rest ≡ 45 ∷ (more ++ it.marked.rest) = it.marked.joined ∙ ap (λ (content : List ℕ). content ++ it.marked.rest) dashes in
    let none : false ≡ true = ap are_newlines (sym begins) ∙ rest in
    cc none

module _ (lines content : List ℕ) (after : AreAfter (lines ++ 10 ∷ []) content) where
  abbrev leading : List ℕ
  leading = lines ++ 10 ∷ []

  started : (before : List ℕ) → StartsLine before → StartsLine (leading ++ before)
  started before (inl none) = inr (lines, ap (λ (it : List ℕ). leading ++ it) none ∙ append-nil leading)
  started before (inr (more, ends)) = inr (leading ++ more, ap (λ (it : List ℕ). leading ++ it) ends ∙ sym (append_assoc leading more (10 ∷ [])))

  marks_after : (position : ℕ) (format : Format) → HasMarkerAt content position format → HasMarkerAt (leading ++ content) (length leading + position) format
  marks_after position format it = record {
    prefix = leading ++ it.prefix;
    rest = it.rest;
    joined = ap (λ (rest : List ℕ). leading ++ rest) it.joined ∙ sym (append_assoc leading it.prefix it.rest);
    as_long = length-append leading it.prefix ∙ ap (λ n. length leading + n) it.as_long;
    starts = started it.prefix it.starts;
    marked = it.marked;
  }

  marks_bytes : (position : ℕ) (format : Format) → HasMarkerAt (leading ++ content) position format → HasMarkerAt content (position - length leading) format
  marks_bytes position format it = has_marker_at_after_prefix leading content position format (after position format it) it

  last_after : (position : ℕ) (format : Format) → IsMarkerPlace content position format → IsMarkerPlace (leading ++ content) (length leading + position) format
  last_after position format is = record {
    here = marks_after position format is.here;
    last = λ other f it.
        let len_le = after other f it in
        let low = is.last (other - length leading) f (marks_bytes other f it) in
        omega (arith, len_le, low);
  }

  parted_found : (message : List ℕ) (signature : Option (List ℕ)) → IsParted content message signature → IsFoundIn (leading ++ content) signature
  parted_found message signature (unsigned _ none) = λ position format it. none (position - length leading) format (marks_bytes position format it)
  parted_found message signature (signed_at_once _ format is) =
      (leading, format, record { position = length leading + 0; is_marker_place = last_after 0 format is; joined = refl; as_long = omega arith })
  parted_found message signature (signed _ _ bytes format joined is) = (
    leading ++ (message ++ 10 ∷ []),
    format,
    record {
      position = length leading + (length message + 1);
      is_marker_place = last_after (length message + 1) format is;
      joined = ap (λ (it : List ℕ). leading ++ it) (joined ∙ sym (append_assoc message (10 ∷ []) bytes))
          ∙ sym (append_assoc leading (message ++ 10 ∷ []) bytes);
      as_long = length-append leading (message ++ 10 ∷ []) ∙ ap (λ n. length leading + n) (length-append message (10 ∷ []));
    },
  )

is_found_in_body : (lines body message : List ℕ) (signature : Option (List ℕ)) → AreAfter lines body → IsBody body message signature
    → IsFoundIn (lines ++ body) signature
is_found_in_body lines body message signature after (newlines_alone _ are) =
    λ position format it. no_marker_in_newlines body are (position - length lines) format
    (has_marker_at_after_prefix lines body position format (after position format it) it)
is_found_in_body lines body message signature after (after_a_newline _ content _ _ joined more parted) =
    let ahead : AreAfter (lines ++ 10 ∷ []) content = also_after lines (10 ∷ []) content (subst (λ (it : List ℕ). AreAfter lines it) joined after)
    (after_newline_alone content) in
    let flat : (lines ++ 10 ∷ []) ++ content ≡ lines ++ body = append_assoc lines (10 ∷ []) content ∙ ap (λ (it : List ℕ). lines ++ it)
    (sym joined) in
    subst (λ (it : List ℕ). IsFoundIn it signature) flat (parted_found lines content ahead message signature parted)

pub tag_found : (kind : Kind) (content : List ℕ) (tag : TagLines) → Reads kind content tag → IsFoundIn content tag.signature
tag_found kind content tag reads =
    subst (λ (it : List ℕ). IsFoundIn it tag.signature) (sym (lines_joined kind content tag reads))
    (is_found_in_body (encode_tag_lines tag) reads.body tag.message tag.signature (after_lines kind content tag reads) reads.parted)

-- ---- both signatures agree

pub one_signature : (content signature signature' before before' : List ℕ) (format format' : Format) → HasTagSignature content signature before format
    → HasTagSignature content signature' before' format' → (signature ≡ signature') × (format ≡ format')
one_signature content signature signature' before before' format format' has has' =
    let one = marker_place_unique content has.position has'.position format format' has.is_marker_place has'.is_marker_place in
    let split = append_split_unique before signature before' signature' (sym has.joined ∙ has'.joined) (has.as_long ∙ one.0 ∙ sym has'.as_long) in
    (split.1, one.1)

-- the format of a signature that is found is that of the marker at its start
signature_begins_with_marker : (content signature before : List ℕ) (format : Format) → HasTagSignature content signature before format
    → BeginsWithMarker format signature
signature_begins_with_marker content signature before format has =
    let here = has.is_marker_place.here in
    let split = append_split_unique here.prefix here.rest before signature (sym here.joined ∙ has.joined) (here.as_long ∙ sym has.as_long) in
    subst (λ (it : List ℕ). BeginsWithMarker format it) split.1 here.marked

found_signatures_are_the_same : (content : List ℕ) (signature : Option (List ℕ)) (own : Option SignatureRef) (found : Option (SignatureRef × SignedData))
    → IsFoundIn content signature
    → IsSignature signature own
    → IfSome found (FindsSignatureOfTag content) → IfNone found (HasNoMarker content) → AreSameSignatures own found
found_signatures_are_the_same content None None None is own has_own none = tt
found_signatures_are_the_same content None None (Some found) is own has_own none =
    absurd (no_marker_and_marker_place content has_own.position found.0.format has_own.is_marker_place is)
found_signatures_are_the_same content None (Some it) found is own has_own none = absurd own
found_signatures_are_the_same content (Some bytes) None found (before, format, has) own has_own none =
    absurd (own format (signature_begins_with_marker content bytes before format has))
found_signatures_are_the_same content (Some bytes) (Some it) None (before, format, has) own has_own none =
    absurd (no_marker_and_marker_place content has.position format has.is_marker_place none)
found_signatures_are_the_same content (Some bytes) (Some it) (Some found) (before, format, has) own has_own none =
    let one = one_signature content (bstr_bytes found.0.bytes) bytes (signed_bytes found.1) before found.0.format format has_own has in
    (one.0 ∙ sym own.0, one.1 ∙ format_of_marker_unique bytes format it.format (signature_begins_with_marker content bytes before format has) own.1)

pub tag_signatures_are_same : (kind : Kind) (content : List ℕ) (tag : TagLines) (own : Option SignatureRef) (found : Option (SignatureRef × SignedData))
    → DecodesToTag kind content tag → IsSignature tag.signature own
    → IfSome found (FindsSignatureOfTag content) → IfNone found (HasNoMarker content) → AreSameSignatures own found
tag_signatures_are_same kind content tag own found is = found_signatures_are_the_same content tag.signature own found
    (tag_found kind content tag (parts_of_decoded_tag kind content tag is))
