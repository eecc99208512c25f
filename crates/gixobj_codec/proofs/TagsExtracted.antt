-- States that the payload that is found in a signed tag is the one that was signed, for the laws on signed tags and
-- `TagsAgree`.
use Rattle.std.proofs.Common.{◌≡◌, inl, inr, ◌≤◌, ◌-◌, ◌∙◌, ℕ, List, [], ◌∷◌, ◌++◌, Some, None, arith, length, refl, sym, ap, subst, append_assoc, append-nil}
use Rattle.std.proofs.lemmas.List.{length-append}
use Rattle.gixobj_parse.specs.Markers.{BeginsWithMarker, HasNoMarker, IsMarkerPlace, HasMarkerAt, StartsLine}
use Rattle.gixobj_parse.specs.declared.signature.Format.{Format}
use Rattle.gixobj_tag.specs.TagFormat.{TagLines, encode_tag_lines}
use Rattle.gixobj_tag.specs.TagWriting.{encode_message, encode_tag}
use Rattle.gixobj_grammar.specs.TagSignatures.{HasTagSignature}
use Rattle.gixobj_tag.specs.TagSigning.{payload_of_tag, signed_as}
use Rattle.gixobj_codec.specs.OneMarker.{HasOneMarker}

-- of two splits of the same bytes, the longer prefix is the shorter one and more
pub prefix_of_append_eq : (p bytes head rest : List ℕ) → p ++ bytes ≡ head ++ rest → length p ≤ length head
    → (more : List ℕ) × (head ≡ p ++ more) × (bytes ≡ more ++ rest)
prefix_of_append_eq [] bytes head rest same long = (head, refl, same)
prefix_of_append_eq (byte ∷ p) bytes [] rest same long = absurd (omega arith)
prefix_of_append_eq (byte ∷ p) bytes (other ∷ head) rest same long =
    let first : byte ≡ other = cc same in
    let tail : p ++ bytes ≡ head ++ rest = cc same in
    let (more, joined, remaining) = prefix_of_append_eq p bytes head rest tail (omega arith) in
    (more, cc (first, joined), remaining)

suffix_nil_of_append_nil : (p more : List ℕ) → p ++ more ≡ [] → more ≡ []
suffix_nil_of_append_nil [] more same = same
suffix_nil_of_append_nil (byte ∷ p) more same = cc same

starts_line_of_lines_suffix : (p more lines : List ℕ) → p ++ more ≡ lines ++ 10 ∷ [] → StartsLine more
starts_line_of_lines_suffix [] more lines same = inr (lines, same)
starts_line_of_lines_suffix (byte ∷ p) more [] same = let tail : p ++ more ≡ [] = cc same in inl (suffix_nil_of_append_nil p more tail)
starts_line_of_lines_suffix (byte ∷ p) more (other ∷ lines) same = let tail : p ++ more ≡ lines ++ 10 ∷ [] = cc same in
    starts_line_of_lines_suffix p more lines tail

starts_line_of_suffix : (p more head : List ℕ) → head ≡ p ++ more → StartsLine head → StartsLine more
starts_line_of_suffix p more head is (inl none) = inl (suffix_nil_of_append_nil p more (sym is ∙ none))
starts_line_of_suffix p more head is (inr (lines, ends)) = starts_line_of_lines_suffix p more lines (sym is ∙ ends)

-- a marker after a prefix marks a position of the rest
pub has_marker_at_after_prefix : (p bytes : List ℕ) (position : ℕ) (format : Format) → length p ≤ position → HasMarkerAt (p ++ bytes) position format
    → HasMarkerAt bytes (position - length p) format
has_marker_at_after_prefix p bytes position format len_le it =
    let parts = prefix_of_append_eq p bytes it.prefix it.rest it.joined (omega (arith, it.as_long)) in
    record {
      prefix = parts.0;
      rest = it.rest;
      joined = parts.2;
      as_long = omega (arith, ap length parts.1, length-append p parts.0, it.as_long);
      starts = starts_line_of_suffix p parts.0 it.prefix parts.1 it.starts;
      marked = it.marked;
    }

pub append_split_unique : (a b c d : List ℕ) → a ++ b ≡ c ++ d → length a ≡ length c → (a ≡ c) × (b ≡ d)
append_split_unique [] b [] d same long = (refl, same)
append_split_unique [] b (y ∷ c) d same long = absurd (omega arith)
append_split_unique (x ∷ a) b [] d same long = absurd (omega arith)
append_split_unique (x ∷ a) b (y ∷ c) d same long =
    let first : x ≡ y = cc same in
    let tail : a ++ b ≡ c ++ d = cc same in
    let rest = append_split_unique a b c d tail (omega arith) in
    (cc (first, rest.0), rest.1)

signed_tag_append_assoc : (lines message signature : List ℕ) → lines ++ (message ++ 10 ∷ signature) ≡ ((lines ++ (message ++ [])) ++ 10 ∷ []) ++ signature
signed_tag_append_assoc lines message signature = simp (append_assoc, append-nil)

pub signed_tag_bytes : (tag : TagLines) (bytes : List ℕ) → encode_tag (signed_as (Some bytes) tag) ≡ payload_of_tag tag ++ bytes
signed_tag_bytes tag bytes = signed_tag_append_assoc (encode_tag_lines tag) (encode_message tag.message) bytes

marker_place_eq_payload_len : (unsigned bytes : List ℕ) (position : ℕ) (format own : Format) → BeginsWithMarker own bytes
    → ((other_position : ℕ) (other : Format) → HasMarkerAt bytes other_position other → other_position ≡ 0)
    → IsMarkerPlace ((unsigned ++ 10 ∷ []) ++ bytes) position format → position ≡ length (unsigned ++ 10 ∷ [])
marker_place_eq_payload_len unsigned bytes position format own begins one is =
    let here : HasMarkerAt ((unsigned ++ 10 ∷ []) ++ bytes) (length (unsigned ++ 10 ∷ [])) own = record {
      prefix = unsigned ++ 10 ∷ [];
      rest = bytes;
      joined = refl;
      as_long = refl;
      starts = inr (unsigned, refl);
      marked = begins;
    } in
    let len_le : length (unsigned ++ 10 ∷ []) ≤ position = is.last (length (unsigned ++ 10 ∷ [])) own here in
    let none : position - length (unsigned ++ 10 ∷ []) ≡ 0 = one _ format
    (has_marker_at_after_prefix (unsigned ++ 10 ∷ []) bytes position format len_le is.here) in
    omega (arith, len_le, none)

-- the payload and the signature that are found are the tag's and the signer's
pub signed_data_is_payload_of_tag : (tag : TagLines) (bytes signature signed : List ℕ) (format : Format) → HasOneMarker bytes
    → HasTagSignature (encode_tag (signed_as (Some bytes) tag)) signature signed format → (signed ≡ payload_of_tag tag) × (signature ≡ bytes)
signed_data_is_payload_of_tag tag bytes signature signed format marker has =
    let is : IsMarkerPlace (payload_of_tag tag ++ bytes) has.position format = subst (λ (it : List ℕ). IsMarkerPlace it has.position format)
    (signed_tag_bytes tag bytes) has.is_marker_place in
    let position : has.position ≡ length (payload_of_tag tag) = marker_place_eq_payload_len
    (encode_tag (signed_as None tag)) bytes has.position format marker.format marker.begins
    marker.one is in
    append_split_unique signed signature (payload_of_tag tag) bytes (sym has.joined ∙ signed_tag_bytes tag bytes) (has.as_long ∙ position)

-- the encoding of a signed tag has a marker
pub signed_tag_has_marker : (tag : TagLines) (bytes : List ℕ) → HasOneMarker bytes → ¬ HasNoMarker (encode_tag (signed_as (Some bytes) tag))
signed_tag_has_marker tag bytes marker none =
    let payload = payload_of_tag tag in
    let here : HasMarkerAt (payload ++ bytes) (length payload) marker.format = record {
      prefix = payload;
      rest = bytes;
      joined = refl;
      as_long = refl;
      starts = inr (encode_tag (signed_as None tag), refl);
      marked = marker.begins;
    } in
    none (length payload) marker.format
    (subst (λ (it : List ℕ). HasMarkerAt it (length payload) marker.format) (sym (signed_tag_bytes tag bytes)) here)
