-- Signatures with one marker (gitformat-signature, "DESCRIPTION").
use Rattle.std.specs.Prelude.{◌≡◌, ℕ, List}
use Rattle.gixobj_parse.specs.Markers.{BeginsWithMarker, HasMarkerAt}
use Rattle.gixobj_parse.specs.declared.signature.Format.{Format}

-- the bytes begin with a marker, and no other line begins with one
pub record HasOneMarker (bytes : List ℕ) : Type 0 where
  pub format : Format
  pub begins : BeginsWithMarker format bytes
  pub one : (position : ℕ) (other : Format) → HasMarkerAt bytes position other → position ≡ 0
