-- The last marker is at the last prefix of all markers that begins a line and names a format; the search `find` uses
-- these lemmas.
use Rattle.std.proofs.Common.{◌≡◌, ◌≢◌, ◌≤◌, ◌<◌, ◌+◌, ◌-◌, ℕ, List, [], ◌∷◌, ◌++◌, append_assoc, ap, arith, drop, get_or, inl, inr, length, length-append}
use Rattle.std.proofs.Common.{refl, subst, suc, sym, take, ◌∙◌}
use Rattle.std.proofs.lemmas.List.{get_or-append-add, get_or_append_left, get_or-take, length-take-le, take-append-drop, take_more, take_rest}
use Rattle.std.proofs.lemmas.List.Elements.{All-get_or}
use Rattle.std.specs.Prelude.{Some, None, codes}
use Rattle.bstr.specs.Find.{OccursAt}
use Rattle.gixobj_hash.proofs.Splits.{byte_free_of_all_pass}
use Rattle.gixobj_parse.proofs.MarkerPlaces.{begins_with_marker_at_position}
use Rattle.gixobj_parse.specs.LineWalk.{HasMarkerPrefixesBefore, IsLastMarkerPrefix, marker_prefix}
use Rattle.gixobj_parse.specs.Markers.{BeginsWithMarker, BeginsWithNoMarker, HasNoMarker, IsMarkerOf, IsMarkerPlace, HasMarkerAt, StartsLine, pgp_message}
use Rattle.gixobj_parse.specs.Markers.{pgp_signature, signed_message, ssh_signature}
use Rattle.gixobj_parse.specs.declared.signature.Format.{Format}

-- ---- a marker after a newline has its prefix

marker_begins_with_common_prefix : (format : Format) (marker : List ℕ) → IsMarkerOf format marker → (rest : List ℕ) × (marker ≡ codes "-----BEGIN " ++ rest)
marker_begins_with_common_prefix format marker pgp_signature = (codes "PGP SIGNATURE-----", refl)
marker_begins_with_common_prefix format marker pgp_message = (codes "PGP MESSAGE-----", refl)
marker_begins_with_common_prefix format marker signed_message = (codes "SIGNED MESSAGE-----", refl)
marker_begins_with_common_prefix format marker ssh_signature = (codes "SSH SIGNATURE-----", refl)

occurs_at_append : (bytes lines rest : List ℕ) → bytes ≡ lines ++ (marker_prefix ++ rest) → OccursAt bytes marker_prefix (length lines)
occurs_at_append bytes lines rest joined =
    record {
      fits = omega (arith, ap length joined, length-append lines (marker_prefix ++ rest), length-append marker_prefix rest);
      reads = λ j below. ap (λ (it : List ℕ). get_or it (length lines + j) 0) joined ∙ get_or-append-add lines (marker_prefix ++ rest) j 0
          ∙ get_or_append_left marker_prefix rest 0 j below;
    }

-- the prefix of a marker at this position begins one byte before it
abbrev HasMarkerPrefix : List ℕ → ℕ → Type 0
HasMarkerPrefix bytes position = (before : ℕ) × (position ≡ before + 1) × OccursAt bytes marker_prefix before

has_marker_prefix_append : (bytes head rest : List ℕ) (position : ℕ) (format : Format) → bytes ≡ head ++ rest → length head ≡ position
    → BeginsWithMarker format rest
    → 0 < position
    → StartsLine head → HasMarkerPrefix bytes position
has_marker_prefix_append bytes head rest position format joined as_long marked positive (inl empty) = absurd (omega (arith, as_long, ap length empty, positive))
has_marker_prefix_append bytes head rest position format joined as_long marked positive (inr (lines, ends)) =
    let known = marker_begins_with_common_prefix format marked.marker marked.known in
    let content : List ℕ = known.0 ++ marked.rest in
    let begun : rest ≡ codes "-----BEGIN " ++ content = marked.joined ∙ ap (λ (it : List ℕ). it ++ marked.rest) known.1
    ∙ append_assoc (codes "-----BEGIN ") known.0 marked.rest in
    let following : bytes ≡ lines ++ (marker_prefix ++ content) = joined ∙ ap (λ (it : List ℕ). it ++ rest) ends ∙ append_assoc lines (10 ∷ []) rest
    ∙ ap (λ (it : List ℕ). lines ++ 10 ∷ it) begun in
    (length lines, omega (arith, as_long, ap length ends, length-append lines (10 ∷ [])), occurs_at_append bytes lines content following)

has_marker_prefix_of_has_marker_at : (bytes : List ℕ) (position : ℕ) (format : Format) → HasMarkerAt bytes position format → 0 < position
    → HasMarkerPrefix bytes position
has_marker_prefix_of_has_marker_at bytes position format marks positive = has_marker_prefix_append bytes marks.prefix marks.rest position format marks.joined
    marks.as_long marks.marked
    positive
    marks.starts

-- ---- prefixes in the bytes before an end

occurs_at_take : (bytes needle : List ℕ) (end position : ℕ) → OccursAt bytes needle position → end ≤ length bytes → position + length needle ≤ end
    → OccursAt (take end bytes) needle position
occurs_at_take bytes needle end position occurs within fits =
    record {
      fits = omega (arith, fits, length-take-le end bytes within);
      reads = λ j below. get_or-take end bytes (position + j) 0 (omega (arith, below, fits)) ∙ occurs.reads j below;
    }

occurs_at_of_take : (bytes needle : List ℕ) (end position : ℕ) → OccursAt (take end bytes) needle position → end ≤ length bytes → OccursAt bytes needle position
occurs_at_of_take bytes needle end position occurs within =
    let long = length-take-le end bytes within in
    record {
      fits = omega (arith, occurs.fits, long, within);
      reads = λ j below. sym (get_or-take end bytes (position + j) 0 (omega (arith, below, occurs.fits, long))) ∙ occurs.reads j below;
    }

-- ---- prefixes don't overlap, since only their first byte is a newline

begin_prefix_is_newline_free : (i : ℕ) → i < 11 → get_or (codes "-----BEGIN ") i 0 ≢ 10
begin_prefix_is_newline_free i below = All-get_or (λ it. it ≢ 10) (codes "-----BEGIN ") i 0 below (byte_free_of_all_pass 10 (codes "-----BEGIN ") refl)

le_of_not_lt : (a b : ℕ) → (a < b → ⊥) → b ≤ a
le_of_not_lt a b no_less = grind (arith, no_less)

marker_prefixes_do_not_overlap : (bytes : List ℕ) (first second : ℕ) → OccursAt bytes marker_prefix first → OccursAt bytes marker_prefix second → first < second
    → first + 12 ≤ second
marker_prefixes_do_not_overlap bytes first second at_first at_second before =
    le_of_not_lt second (first + 12) (λ near.
    let i : ℕ = second - (first + 1) in
    let there : first + suc i ≡ second + 0 = omega (arith, before) in
    let below : i < 11 = omega (arith, before, near) in
    begin_prefix_is_newline_free i below (sym (at_first.reads (suc i) (omega (arith, below))) ∙ ap (λ (it : ℕ). get_or bytes it 0) there
    ∙ at_second.reads 0 (omega arith)))

-- ---- the walk

-- the bytes from this position on, as a slice
abbrev bytes_from : List ℕ → ℕ → List ℕ
bytes_from bytes start = take (length bytes - start) (drop start bytes)

-- no marker is after the last prefix
no_later_marker : (bytes : List ℕ) (end newline : ℕ) → end ≤ length bytes → HasMarkerPrefixesBefore bytes end
    → IsLastMarkerPrefix bytes end (Some newline)
    → (position : ℕ) (format : Format) → HasMarkerAt bytes position format → position ≤ newline + 1
no_later_marker bytes end newline within so_far last position format marks =
    le_of_not_lt (newline + 1) position (λ later.
    let head = has_marker_prefix_of_has_marker_at bytes position format marks (omega (arith, later)) in
    let fits : head.0 + 12 ≤ end = omega (arith, so_far position format marks (omega (arith, later)), head.1) in
    last.0.after head.0 (omega (arith, later, head.1)) (omega (arith, fits, length-take-le end bytes within))
    (occurs_at_take bytes marker_prefix end head.0 head.2 within fits))

-- skipping a line that begins with the prefix and with no marker
pub prefixes_before_newline : (bytes : List ℕ) (end newline : ℕ) → end ≤ length bytes → HasMarkerPrefixesBefore bytes end
    → IsLastMarkerPrefix bytes end (Some newline)
    → BeginsWithNoMarker (bytes_from bytes (newline + 1)) → (newline ≤ length bytes) × HasMarkerPrefixesBefore bytes newline
prefixes_before_newline bytes end newline within so_far last unmarked =
    let here = occurs_at_of_take bytes marker_prefix end newline last.1 within in (
      omega (arith, here.fits),
      λ position format marks positive.
          let P : ℕ → Type 0 = λ it. BeginsWithMarker format (bytes_from bytes it) in
          let other : position ≢ newline + 1 =
          λ same. unmarked format (subst P same (rw (take_rest bytes position) (begins_with_marker_at_position bytes position format marks))) in
          let head = has_marker_prefix_of_has_marker_at bytes position format marks positive in
          let before : head.0 < newline = omega (arith, other, head.1, no_later_marker bytes end newline within so_far last position format marks) in
          omega (arith, head.1, marker_prefixes_do_not_overlap bytes head.0 newline head.2 here before),
    )

-- the marker at the last prefix is the last marker
pub marker_place_at_newline : (bytes : List ℕ) (end newline : ℕ) (format : Format) → end ≤ length bytes → HasMarkerPrefixesBefore bytes end
    → IsLastMarkerPrefix bytes end (Some newline)
    → BeginsWithMarker format (bytes_from bytes (newline + 1)) → IsMarkerPlace bytes (newline + 1) format
marker_place_at_newline bytes end newline format within so_far last marked =
    let here = occurs_at_of_take bytes marker_prefix end newline last.1 within in
    let there : newline ≡ newline + 0 = omega arith in
    let ends : take (newline + 1) bytes ≡ take newline bytes ++ 10 ∷ [] =
    take_more bytes newline 0 (omega (arith, here.fits)) ∙ ap (λ (it : ℕ). take newline bytes ++ it ∷ [])
    (ap (λ (it : ℕ). get_or bytes it 0) there ∙ here.reads 0 (omega arith)) in
    let P : List ℕ → Type 0 = BeginsWithMarker format in
    record {
      here = record {
        prefix = take (newline + 1) bytes;
        rest = drop (newline + 1) bytes;
        joined = sym (take-append-drop (newline + 1) bytes);
        as_long = length-take-le (newline + 1) bytes (omega (arith, here.fits));
        starts = inr (take newline bytes, ends);
        marked = subst P (take_rest bytes (newline + 1)) marked;
      };
      last = no_later_marker bytes end newline within so_far last;
    }

-- without a prefix, only the start of the bytes can have a marker
no_marker_after_start : (bytes : List ℕ) (end : ℕ) → end ≤ length bytes → HasMarkerPrefixesBefore bytes end → IsLastMarkerPrefix bytes end None
    → (position : ℕ) (format : Format) → HasMarkerAt bytes position format → position ≤ 0
no_marker_after_start bytes end within so_far none position format marks =
    le_of_not_lt 0 position (λ positive.
    let head = has_marker_prefix_of_has_marker_at bytes position format marks positive in
    let fits : head.0 + 12 ≤ end = omega (arith, so_far position format marks positive, head.1) in
    none head.0 (omega arith) (omega (arith, fits, length-take-le end bytes within)) (occurs_at_take bytes marker_prefix end head.0 head.2 within fits))

pub marker_place_at_start : (bytes : List ℕ) (end : ℕ) (format : Format) → end ≤ length bytes → HasMarkerPrefixesBefore bytes end
    → IsLastMarkerPrefix bytes end None
    → BeginsWithMarker format bytes → IsMarkerPlace bytes 0 format
marker_place_at_start bytes end format within so_far none marked =
    record {
      here = record { prefix = []; rest = bytes; joined = refl; as_long = refl; starts = inl refl; marked = marked };
      last = no_marker_after_start bytes end within so_far none;
    }

pub no_marker_of_no_prefix : (bytes : List ℕ) (end : ℕ) → end ≤ length bytes → HasMarkerPrefixesBefore bytes end → IsLastMarkerPrefix bytes end None
    → BeginsWithNoMarker bytes → HasNoMarker bytes
no_marker_of_no_prefix bytes end within so_far none unmarked position format marks =
    let P : ℕ → Type 0 = λ it. BeginsWithMarker format (drop it bytes) in
    let first : position ≡ 0 = omega (arith, no_marker_after_start bytes end within so_far none position format marks) in
    unmarked format (subst P first (begins_with_marker_at_position bytes position format marks))
