-- Bytes have at most one marker position, and split there.
use Rattle.std.proofs.Common.{◌≡◌, ◌≤◌, ℕ, List, ◌++◌, arith, ap, cond, drop, eqb, get_or, length, length-append, refl, subst, sym, take, ◌∙◌}
use Rattle.std.proofs.Math.Seq.{drop-append_seam, take-append_seam}
use Rattle.std.proofs.lemmas.List.{take-append-drop}
use Rattle.gixobj_parse.specs.Markers.{BeginsWithMarker, HasNoMarker, IsMarkerOf, IsMarkerPlace, HasMarkerAt, StartsLine, pgp_message, pgp_signature}
use Rattle.gixobj_parse.specs.Markers.{signed_message, ssh_signature}
use Rattle.gixobj_parse.specs.declared.signature.Format.{Format}
use Rattle.gixobj_parse.specs.declared.signature.Format.TheVariants as format

-- ---- one format

-- the format by the thirteenth byte of a marker: the `G` of `PGP`, the `I` of `SIGNED` or the second `S` of `SSH`
abbrev known_by : ℕ → Format
known_by byte = cond (eqb byte 71) format.OpenPgp (cond (eqb byte 73) format.X509 format.Ssh)

known_by_marker_byte : (format : Format) (marker rest : List ℕ) → IsMarkerOf format marker → known_by (get_or (marker ++ rest) 12 0) ≡ format
known_by_marker_byte format marker rest pgp_signature = refl
known_by_marker_byte format marker rest pgp_message = refl
known_by_marker_byte format marker rest signed_message = refl
known_by_marker_byte format marker rest ssh_signature = refl

pub format_of_marker_unique : (bytes : List ℕ) (f g : Format) → BeginsWithMarker f bytes → BeginsWithMarker g bytes → f ≡ g
format_of_marker_unique bytes f g first second =
    sym (known_by_marker_byte f first.marker first.rest first.known) ∙ ap (λ (it : List ℕ). known_by (get_or it 12 0)) (sym first.joined ∙ second.joined)
    ∙ known_by_marker_byte g second.marker second.rest second.known

-- ---- one position

take_at_marker_is_prefix : (bytes : List ℕ) (position : ℕ) (f : Format) → (here : HasMarkerAt bytes position f) → take position bytes ≡ here.prefix
take_at_marker_is_prefix bytes position f here =
    let has_split : take (length here.prefix) bytes ≡ here.prefix = ap (take (length here.prefix)) here.joined ∙ take-append_seam here.prefix here.rest in
    ap (λ (it : ℕ). take it bytes) (sym here.as_long) ∙ has_split

drop_at_marker_is_rest : (bytes : List ℕ) (position : ℕ) (f : Format) → (here : HasMarkerAt bytes position f) → drop position bytes ≡ here.rest
drop_at_marker_is_rest bytes position f here =
    let has_split : drop (length here.prefix) bytes ≡ here.rest = ap (drop (length here.prefix)) here.joined ∙ drop-append_seam here.prefix here.rest in
    ap (λ (it : ℕ). drop it bytes) (sym here.as_long) ∙ has_split

pub begins_with_marker_at_position : (bytes : List ℕ) (position : ℕ) (f : Format) → HasMarkerAt bytes position f → BeginsWithMarker f (drop position bytes)
begins_with_marker_at_position bytes position f here = subst (BeginsWithMarker f) (sym (drop_at_marker_is_rest bytes position f here)) here.marked

pub starts_line_at_marker : (bytes : List ℕ) (position : ℕ) (f : Format) → HasMarkerAt bytes position f → StartsLine (take position bytes)
starts_line_at_marker bytes position f here = subst StartsLine (sym (take_at_marker_is_prefix bytes position f here)) here.starts

pub marker_place_le_len : (bytes : List ℕ) (position : ℕ) (f : Format) → HasMarkerAt bytes position f → position ≤ length bytes
marker_place_le_len bytes position f here = omega (arith, here.as_long, ap length here.joined, length-append here.prefix here.rest)

pub marker_place_unique : (bytes : List ℕ) (a b : ℕ) (f g : Format) → IsMarkerPlace bytes a f → IsMarkerPlace bytes b g → (a ≡ b) × (f ≡ g)
marker_place_unique bytes a b f g first second =
    let same : a ≡ b = omega (arith, second.last a f first.here, first.last b g second.here) in
    let P : ℕ → Type 0 = λ it. BeginsWithMarker g (drop it bytes) in (
      same,
      format_of_marker_unique (drop a bytes) f g (begins_with_marker_at_position bytes a f first.here)
          (subst P (sym same) (begins_with_marker_at_position bytes b g second.here)),
    )

pub no_marker_and_marker_place : (bytes : List ℕ) (a : ℕ) (f : Format) → IsMarkerPlace bytes a f → HasNoMarker bytes → ⊥
no_marker_and_marker_place bytes a f is none = none a f is.here

-- the parts at the position
pub marker_place_splits : (bytes : List ℕ) (position : ℕ) (f : Format) → IsMarkerPlace bytes position f
    → (bytes ≡ take position bytes ++ drop position bytes) × StartsLine (take position bytes) × BeginsWithMarker f (drop position bytes)
    × (position ≤ length bytes)
marker_place_splits bytes position f is = (
  sym (take-append-drop position bytes),
  starts_line_at_marker bytes position f is.here,
  begins_with_marker_at_position bytes position f is.here,
  marker_place_le_len
      bytes position f is.here,
)
