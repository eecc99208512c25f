-- The markers of signatures and their positions at line starts (gitformat-signature, "DESCRIPTION", "Tag signatures").
use Rattle.std.specs.Prelude.{◌≡◌, ◌≤◌, ℕ, List, [], ◌∷◌, ◌++◌, ◌⊎◌, codes, length}
use Rattle.gixobj_parse.specs.declared.signature.Format.{Format}
use Rattle.gixobj_parse.specs.declared.signature.Format.TheVariants as format
use Rattle.gixobj_hash.specs.Bytes.{newline}

-- a marker with which signatures of this format begin
pub data IsMarkerOf : Format → List ℕ → Type 0 where
  pgp_signature : IsMarkerOf format.OpenPgp (codes "-----BEGIN PGP SIGNATURE-----")
  pgp_message : IsMarkerOf format.OpenPgp (codes "-----BEGIN PGP MESSAGE-----")
  signed_message : IsMarkerOf format.X509 (codes "-----BEGIN SIGNED MESSAGE-----")
  ssh_signature : IsMarkerOf format.Ssh (codes "-----BEGIN SSH SIGNATURE-----")

-- the bytes begin with a marker of this format
pub record BeginsWithMarker (format : Format) (bytes : List ℕ) : Type 0 where
  pub marker : List ℕ
  pub rest : List ℕ
  pub known : IsMarkerOf format marker
  pub joined : bytes ≡ marker ++ rest

-- the bytes begin with no marker
abbrev pub BeginsWithNoMarker : List ℕ → Type 0
BeginsWithNoMarker bytes = (format : Format) → ¬ BeginsWithMarker format bytes

-- a line starts after `head`: it is empty, or ends in a newline
abbrev pub StartsLine : List ℕ → Type 0
StartsLine head = (head ≡ []) ⊎ ((lines : List ℕ) × (head ≡ lines ++ newline ∷ []))

-- a marker of this format is at this position, at the start of a line
pub record HasMarkerAt (bytes : List ℕ) (position : ℕ) (format : Format) : Type 0 where
  pub prefix : List ℕ
  pub rest : List ℕ
  pub joined : bytes ≡ prefix ++ rest
  pub as_long : length prefix ≡ position
  pub starts : StartsLine prefix
  pub marked : BeginsWithMarker format rest

-- the last position of a marker at the start of a line, and its format
pub record IsMarkerPlace (bytes : List ℕ) (position : ℕ) (format : Format) : Type 0 where
  pub here : HasMarkerAt bytes position format
  pub last : (other : ℕ) (format' : Format) → HasMarkerAt bytes other format' → other ≤ position

-- no line begins with a marker
abbrev pub HasNoMarker : List ℕ → Type 0
HasNoMarker bytes = (position : ℕ) (format : Format) → ¬ HasMarkerAt bytes position format
