-- Bytes are the encoding of a tag if and only if some tag decodes from them: any bytes split at their last marker.
-- The law `tag_recognition_agrees` and the lookups of tags use it.
use Rattle.std.proofs.Common.{◌≡◌, ◌≢◌, ◌⊎◌, ◌<◌, ◌≤◌, ◌+◌, ℕ, List, [], ◌∷◌, ◌++◌, Bool, IsTrue, Option, Some, None, ◌&&◌, ap, append_assoc, arith, drop}
use Rattle.std.proofs.Common.{false, inl, inr, length, length-append, refl, suc, subst, sym, take, true, zero, ◌∙◌}
use Rattle.std.proofs.lemmas.Bool.Decides.{Decides-eqb, eqb_tells}
use Rattle.std.proofs.lemmas.List.{length-take-le, take-append-drop}
use Rattle.std.proofs.lemmas.Slice.Eq.{starts_is}
use Rattle.std.specs.List.{starts_with}
use Rattle.std.specs.Prelude.{codes, nat_eq}
use Rattle.gixobj_hash.specs.declared.hash.kind.Kind as hash
use Rattle.gixobj_parse.proofs.MarkerPlaces.{begins_with_marker_at_position, marker_place_le_len, starts_line_at_marker}
use Rattle.gixobj_parse.specs.Markers.{BeginsWithMarker, BeginsWithNoMarker, IsMarkerOf, IsMarkerPlace, HasMarkerAt, StartsLine, pgp_message, pgp_signature}
use Rattle.gixobj_parse.specs.Markers.{signed_message, ssh_signature}
use Rattle.gixobj_parse.specs.declared.signature.Format.{Format}
use Rattle.gixobj_grammar.specs.TagPrefix.{IsTagBody, IsTag}
use Rattle.gixobj_grammar.proofs.TagBodies.{is_body_after_newline}
use Rattle.gixobj_tag.specs.TagFormat.{DecodesToTag, TagLines}
use Rattle.gixobj_grammar.specs.TagBodies.{IsBody, IsParted, are_newlines, after_a_newline, newlines_alone, signed, signed_at_once, unsigned}

-- ---- a marker at the beginning, or none

abbrev Begins : List ℕ → List ℕ → Bool
Begins marker bytes = starts_with nat_eq bytes marker

begins_of_append : (marker bytes rest : List ℕ) → bytes ≡ marker ++ rest → Begins marker bytes ≡ true
begins_of_append marker bytes rest joined = (starts_is Decides-eqb bytes marker (Begins marker bytes) refl).1 rest joined

begins_not_false_of_append : (marker bytes rest : List ℕ) → bytes ≡ marker ++ rest → Begins marker bytes ≡ false → ⊥
begins_not_false_of_append marker bytes rest joined not = cc (sym (begins_of_append marker bytes rest joined) ∙ not)

begins_with_marker_of_test : (format : Format) (marker bytes : List ℕ) → IsMarkerOf format marker → Begins marker bytes ≡ true → BeginsWithMarker format bytes
begins_with_marker_of_test format marker bytes is same =
    record { marker = marker; rest = drop (length marker) bytes; known = is; joined = (starts_is Decides-eqb bytes marker (Begins marker bytes) refl).0 same }

no_marker_of_tests : (bytes : List ℕ) → Begins (codes "-----BEGIN PGP SIGNATURE-----") bytes ≡ false
    → Begins (codes "-----BEGIN PGP MESSAGE-----") bytes ≡ false
    → Begins (codes "-----BEGIN SIGNED MESSAGE-----") bytes ≡ false
    → Begins (codes "-----BEGIN SSH SIGNATURE-----") bytes ≡ false → (format : Format) (marker rest : List ℕ) → IsMarkerOf format marker
    → bytes ≡ marker ++ rest → ⊥
no_marker_of_tests bytes one two three four format marker rest pgp_signature joined =
    begins_not_false_of_append (codes "-----BEGIN PGP SIGNATURE-----") bytes rest joined one
no_marker_of_tests bytes one two three four format marker rest pgp_message joined =
    begins_not_false_of_append (codes "-----BEGIN PGP MESSAGE-----") bytes rest joined two
no_marker_of_tests bytes one two three four format marker rest signed_message joined =
    begins_not_false_of_append (codes "-----BEGIN SIGNED MESSAGE-----") bytes rest joined three
no_marker_of_tests bytes one two three four format marker rest ssh_signature joined =
    begins_not_false_of_append (codes "-----BEGIN SSH SIGNATURE-----") bytes rest joined four

marker_or_none_of_tests : (bytes : List ℕ) (a b c d : Bool) → Begins (codes "-----BEGIN PGP SIGNATURE-----") bytes ≡ a
    → Begins (codes "-----BEGIN PGP MESSAGE-----") bytes ≡ b → Begins (codes "-----BEGIN SIGNED MESSAGE-----") bytes ≡ c
    → Begins (codes "-----BEGIN SSH SIGNATURE-----") bytes ≡ d → ((format : Format) × BeginsWithMarker format bytes) ⊎ BeginsWithNoMarker bytes
marker_or_none_of_tests bytes true b c d is two three four = inl (_, begins_with_marker_of_test _ _ bytes pgp_signature is)
marker_or_none_of_tests bytes false true c d one is three four = inl (_, begins_with_marker_of_test _ _ bytes pgp_message is)
marker_or_none_of_tests bytes false false true d one two is four = inl (_, begins_with_marker_of_test _ _ bytes signed_message is)
marker_or_none_of_tests bytes false false false true one two three is = inl (_, begins_with_marker_of_test _ _ bytes ssh_signature is)
marker_or_none_of_tests bytes false false false false one two three four = inr
    (λ format it. no_marker_of_tests bytes one two three four format it.marker it.rest it.known it.joined)

marker_or_none : (bytes : List ℕ) → ((format : Format) × BeginsWithMarker format bytes) ⊎ BeginsWithNoMarker bytes
marker_or_none bytes = marker_or_none_of_tests bytes _ _ _ _ refl refl refl refl

-- ---- the start of a line, or none

newline_or_not : (byte : ℕ) → ((byte ≡ 10) ⊎ (byte ≢ 10))
newline_or_not byte = elim (eqb_tells byte 10) [ inl it ↦ inl it.1 | inr it ↦ inr it.1 ]

starts_line_singleton_or_not : (byte : ℕ) → (byte ≡ 10) ⊎ (byte ≢ 10) → StartsLine (byte ∷ []) ⊎ ¬ StartsLine (byte ∷ [])
starts_line_singleton_or_not byte (inl is) = inl (inr ([], ap (λ (it : ℕ). it ∷ []) is))
starts_line_singleton_or_not byte (inr other) = inr (no_line byte other)
  where
    ends : (byte : ℕ) (lines : List ℕ) → byte ≢ 10 → byte ∷ [] ≡ lines ++ 10 ∷ [] → ⊥
    ends byte [] other same = other (cc same)
    ends byte (first ∷ []) other same = cc same
    ends byte (first ∷ second ∷ lines) other same = cc same

    no_line : (byte : ℕ) → byte ≢ 10 → ¬ StartsLine (byte ∷ [])
    no_line byte other (inl none) = cc none
    no_line byte other (inr (lines, same)) = ends byte lines other same

starts_line_cons_or_not : (byte next : ℕ) (rest : List ℕ) → StartsLine (next ∷ rest) ⊎ ¬ StartsLine (next ∷ rest)
    → StartsLine (byte ∷ next ∷ rest) ⊎ ¬ StartsLine (byte ∷ next ∷ rest)
starts_line_cons_or_not byte next rest (inl (inl none)) = cc none
starts_line_cons_or_not byte next rest (inl (inr (lines, same))) = inl (inr (byte ∷ lines, ap (λ (it : List ℕ). byte ∷ it) same))
starts_line_cons_or_not byte next rest (inr bad) = inr (no_line bad)
  where
    shorter : (lines : List ℕ) → byte ∷ next ∷ rest ≡ lines ++ 10 ∷ [] → StartsLine (next ∷ rest)
    shorter [] same = cc same
    shorter (first ∷ lines) same = inr (lines, cc same)

    no_line : ¬ StartsLine (next ∷ rest) → ¬ StartsLine (byte ∷ next ∷ rest)
    no_line bad (inl none) = cc none
    no_line bad (inr (lines, same)) = bad (shorter lines same)

starts_line_or_not : (head : List ℕ) → StartsLine head ⊎ ¬ StartsLine head
starts_line_or_not [] = inl (inl refl)
starts_line_or_not (byte ∷ []) = starts_line_singleton_or_not byte (newline_or_not byte)
starts_line_or_not (byte ∷ next ∷ rest) = starts_line_cons_or_not byte next rest (starts_line_or_not (next ∷ rest))

-- ---- a marker at a position, or none

abbrev MarkedOrNot : List ℕ → ℕ → Type 0
MarkedOrNot bytes position = ((format : Format) × HasMarkerAt bytes position format) ⊎ ((format : Format) → ¬ HasMarkerAt bytes position format)

marked_or_not_of_parts : (bytes : List ℕ) (position : ℕ) → position ≤ length bytes → StartsLine (take position bytes) ⊎ ¬ StartsLine (take position bytes)
    → ((format : Format) × BeginsWithMarker format (drop position bytes)) ⊎ BeginsWithNoMarker (drop position bytes)
    → MarkedOrNot bytes position
marked_or_not_of_parts bytes position within (inl starts) (inl (format, marked)) =
    inl (
      format,
      record {
        prefix = take position bytes;
        rest = drop position bytes;
        joined = sym (take-append-drop position bytes);
        as_long = length-take-le position bytes within;
        starts = starts;
        marked = marked;
      },
    )
marked_or_not_of_parts bytes position within (inr bad) marked = inr (λ format it. bad (starts_line_at_marker bytes position format it))
marked_or_not_of_parts bytes position within (inl starts) (inr none) = inr (λ format it. none format (begins_with_marker_at_position bytes position format it))

marked_or_not : (bytes : List ℕ) (position : ℕ) → position ≤ length bytes → MarkedOrNot bytes position
marked_or_not bytes position within = marked_or_not_of_parts bytes position within (starts_line_or_not (take position bytes))
    (marker_or_none (drop position bytes))

-- the last marked position before this end, or none
abbrev LastBefore : List ℕ → ℕ → Type 0
LastBefore bytes end =
    ((position : ℕ) × (format : Format) × HasMarkerAt bytes position format
    × ((other : ℕ) (format' : Format) → HasMarkerAt bytes other format' → other < end → other ≤ position))
    ⊎ ((position : ℕ) (format : Format) → HasMarkerAt bytes position format → position < end → ⊥)

last_before_succ : (bytes : List ℕ) (end : ℕ) → MarkedOrNot bytes end → LastBefore bytes end → LastBefore bytes (suc end)
last_before_succ bytes end (inl (format, here)) before = inl (end, format, here, λ other format' there within. omega (arith, within))
last_before_succ bytes end (inr none) (inl (position, format, here, last)) = inl
    (position, format, here, λ other format' there within. earlier other format' there (split other end within))
  where
    split : (other end : ℕ) → other < suc end → (other < end) ⊎ (other ≡ end)
    split other end within = elim (eqb_tells other end) [ inl it ↦ inr it.1 | inr it ↦ inl (omega (arith, within, it.1)) ]

    earlier : (other : ℕ) (format' : Format) → HasMarkerAt bytes other format' → (other < end) ⊎ (other ≡ end) → other ≤ position
    earlier other format' there (inl within) = last other format' there within
    earlier other format' there (inr same) = absurd (none format' (subst (λ (it : ℕ). HasMarkerAt bytes it format') same there))
last_before_succ bytes end (inr none) (inr nowhere) = inr (λ position format there within. never position format there (split position end within))
  where
    split : (other end : ℕ) → other < suc end → (other < end) ⊎ (other ≡ end)
    split other end within = elim (eqb_tells other end) [ inl it ↦ inr it.1 | inr it ↦ inl (omega (arith, within, it.1)) ]

    never : (position : ℕ) (format : Format) → HasMarkerAt bytes position format → (position < end) ⊎ (position ≡ end) → ⊥
    never position format there (inl within) = nowhere position format there within
    never position format there (inr same) = none format (subst (λ (it : ℕ). HasMarkerAt bytes it format) same there)

last_before_exists : (bytes : List ℕ) (end : ℕ) → end ≤ suc (length bytes) → LastBefore bytes end
last_before_exists bytes zero within = inr (λ position format there no. omega (arith, no))
last_before_exists bytes (suc end) within = last_before_succ bytes end (marked_or_not bytes end (omega (arith, within)))
    (last_before_exists bytes end (omega (arith, within)))

-- ---- any bytes split in message and signature

abbrev Parts : List ℕ → Type 0
Parts bytes = (message : List ℕ) × (signature : Option (List ℕ)) × IsParted bytes message signature

parts_after_lines : (bytes lines : List ℕ) (position : ℕ) (format : Format) → (is : IsMarkerPlace bytes position format) → is.here.prefix ≡ lines ++ 10 ∷ []
    → Parts bytes
parts_after_lines bytes lines position format is ends =
    let joined : bytes ≡ lines ++ 10 ∷ is.here.rest = is.here.joined ∙ ap (λ (it : List ℕ). it ++ is.here.rest) ends
    ∙ append_assoc lines (10 ∷ []) is.here.rest in
    let at : position ≡ length lines + 1 = sym is.here.as_long ∙ ap length ends ∙ length-append lines (10 ∷ []) in
    (lines, Some is.here.rest, signed bytes lines is.here.rest format joined (subst (λ (it : ℕ). IsMarkerPlace bytes it format) at is))

parts_at_start : (bytes : List ℕ) (position : ℕ) (format : Format) → (is : IsMarkerPlace bytes position format) → is.here.prefix ≡ [] → Parts bytes
parts_at_start bytes position format is none =
    let at : position ≡ 0 = sym is.here.as_long ∙ ap length none in (
      [],
      Some bytes,
      signed_at_once bytes format
          (subst (λ (it : ℕ). IsMarkerPlace bytes it format) at is),
    )

parts_of_starts_line : (bytes : List ℕ) (position : ℕ) (format : Format) → (is : IsMarkerPlace bytes position format) → StartsLine is.here.prefix → Parts bytes
parts_of_starts_line bytes position format is (inl none) = parts_at_start bytes position format is none
parts_of_starts_line bytes position format is (inr (lines, ends)) = parts_after_lines bytes lines position format is ends

parts_of_last_before : (bytes : List ℕ) → LastBefore bytes (suc (length bytes)) → Parts bytes
parts_of_last_before bytes (inl (position, format, here, last)) =
    let is : IsMarkerPlace bytes position format = record {
      here = here;
      last = λ other format' there. last other format' there
          (omega (arith, marker_place_le_len bytes other format' there));
    } in
    parts_of_starts_line bytes position format is here.starts
parts_of_last_before bytes (inr nowhere) = (
  bytes,
  None,
  unsigned bytes
      (λ position format there. nowhere position format there (omega (arith, marker_place_le_len bytes position format there))),
)

parts_exist : (bytes : List ℕ) → Parts bytes
parts_exist bytes = parts_of_last_before bytes (last_before_exists bytes (suc (length bytes)) (omega arith))

-- ---- bodies

abbrev Bodies : List ℕ → Type 0
Bodies body = (message : List ℕ) × (signature : Option (List ℕ)) × IsBody body message signature

bodies_of_newlines_test : (body : List ℕ) (all : Bool) → are_newlines body ≡ all → IsTagBody body → Bodies body
bodies_of_newlines_test body true are is = (body, None, newlines_alone body are)
bodies_of_newlines_test [] false more is = cc more
bodies_of_newlines_test (byte ∷ bytes) false more is =
    let parts = parts_exist bytes in (
      parts.0,
      parts.1,
      is_body_after_newline (byte ∷ bytes) bytes parts.0 parts.1 more (ap (λ (it : ℕ). it ∷ bytes) is)
          parts.2,
    )

newlines_head_eq_newline : (byte : ℕ) (rest : List ℕ) → IsTrue (are_newlines (byte ∷ rest)) → byte ≡ 10
newlines_head_eq_newline byte rest are = elim (eqb_tells byte 10) [ inl it ↦ it.1 | inr it ↦ cc (sym are ∙ ap (λ (b : Bool). b && are_newlines rest) it.0) ]

is_tag_body_of_newlines : (body : List ℕ) → IsTrue (are_newlines body) → IsTagBody body
is_tag_body_of_newlines [] are = tt
is_tag_body_of_newlines (byte ∷ rest) are = newlines_head_eq_newline byte rest are

is_tag_body_of_is_body : (body message : List ℕ) (signature : Option (List ℕ)) → IsBody body message signature → IsTagBody body
is_tag_body_of_is_body body message signature (newlines_alone _ are) = is_tag_body_of_newlines body are
is_tag_body_of_is_body body message signature (after_a_newline _ bytes _ _ joined more parted) = subst IsTagBody (sym joined) refl

-- ---- tags

pub some_tag : (kind : hash.Kind) (bytes : List ℕ) → IsTag kind bytes → (tag : TagLines) × DecodesToTag kind bytes tag
some_tag kind bytes (body, begins, is) =
    let parts = bodies_of_newlines_test body (are_newlines body) refl is in (
      record { target = begins.target; target_kind = begins.target_kind; name = begins.name; tagger = begins.tagger; message = parts.0; signature = parts.1 },
      record { body = body; joined = begins.joined; target = begins.is_target; name = begins.is_name; tagger = begins.is_tagger; parted = parts.2 },
    )

pub is_tag : (kind : hash.Kind) (bytes : List ℕ) (tag : TagLines) → DecodesToTag kind bytes tag → IsTag kind bytes
is_tag kind bytes tag it = (
  it.body,
  record {
    target = tag.target;
    target_kind = tag.target_kind;
    name = tag.name;
    tagger = tag.tagger;
    joined = it.joined;
    is_target = it.target;
    is_name = it.name;
    is_tagger = it.tagger;
  },
  is_tag_body_of_is_body it.body tag.message tag.signature it.parted,
)
