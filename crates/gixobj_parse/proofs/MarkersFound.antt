-- Bytes that have a marker as a prefix begin with that marker.
use Rattle.std.proofs.Common.{◌≡◌, ℕ, List, length, drop, refl, sym, true}
use Rattle.std.proofs.lemmas.Bool.Decides.{Decides-eqb}
use Rattle.std.proofs.lemmas.Slice.Eq.{starts_is}
use Rattle.std.specs.List.{starts_with}
use Rattle.std.specs.Prelude.{codes, nat_eq}
use Rattle.gixobj_parse.specs.Markers.{BeginsWithMarker, IsMarkerOf, pgp_message, pgp_signature, signed_message, ssh_signature}
use Rattle.gixobj_parse.specs.declared.signature.Format.{Format}
use Rattle.gixobj_parse.specs.declared.signature.Format.TheVariants as format

begins_with_marker_of_starts_with : (format : Format) (marker bytes : List ℕ) → IsMarkerOf format marker → true ≡ starts_with nat_eq bytes marker
    → BeginsWithMarker format bytes
begins_with_marker_of_starts_with format marker bytes is same =
    record {
      marker = marker;
      rest = drop (length marker) bytes;
      known = is;
      joined = (starts_is Decides-eqb bytes marker (starts_with nat_eq bytes marker) refl).0 (sym same);
    }

pub begins_with_pgp_signature : (bytes : List ℕ) → true ≡ starts_with nat_eq bytes (codes "-----BEGIN PGP SIGNATURE-----")
    → BeginsWithMarker format.OpenPgp bytes
begins_with_pgp_signature bytes = begins_with_marker_of_starts_with _ _ bytes pgp_signature

pub begins_with_pgp_message : (bytes : List ℕ) → true ≡ starts_with nat_eq bytes (codes "-----BEGIN PGP MESSAGE-----") → BeginsWithMarker format.OpenPgp bytes
begins_with_pgp_message bytes = begins_with_marker_of_starts_with _ _ bytes pgp_message

pub begins_with_signed_message : (bytes : List ℕ) → true ≡ starts_with nat_eq bytes (codes "-----BEGIN SIGNED MESSAGE-----")
    → BeginsWithMarker format.X509 bytes
begins_with_signed_message bytes = begins_with_marker_of_starts_with _ _ bytes signed_message

pub begins_with_ssh_signature : (bytes : List ℕ) → true ≡ starts_with nat_eq bytes (codes "-----BEGIN SSH SIGNATURE-----") → BeginsWithMarker format.Ssh bytes
begins_with_ssh_signature bytes = begins_with_marker_of_starts_with _ _ bytes ssh_signature
