-- The signature of a tag, and the data that it signs: all bytes before it (gitformat-signature, "Tag signatures").
use Rattle.std.specs.Prelude.{◌≡◌, ℕ, List, ◌++◌, length}
use Rattle.gixobj_parse.specs.Markers.{IsMarkerPlace}
use Rattle.gixobj_parse.specs.declared.signature.Format.{Format}

-- the signature begins at the last marker at the start of a line, and all bytes before it are signed
pub record HasTagSignature (content signature signed : List ℕ) (format : Format) : Type 0 where
  pub position : ℕ
  pub is_marker_place : IsMarkerPlace content position format
  pub joined : content ≡ signed ++ signature
  pub as_long : length signed ≡ position
