-- The backward walk over the lines that begin with the prefix of all markers.
use Rattle.std.specs.Prelude.{◌≤◌, ◌<◌, ◌+◌, ℕ, List, ◌∷◌, Option, codes, length, take}
use Rattle.bstr.specs.Find.{FindsLastNeedle}
use Rattle.gixobj_parse.specs.Markers.{HasMarkerAt}
use Rattle.gixobj_parse.specs.declared.signature.Format.{Format}
use Rattle.gixobj_hash.specs.Bytes.{newline}

-- a newline and the prefix of all markers
abbrev pub marker_prefix : List ℕ
marker_prefix = newline ∷ codes "-----BEGIN "

-- the last position of a newline and the marker prefix before `end`, or none
abbrev pub IsLastMarkerPrefix : List ℕ → ℕ → Option ℕ → Type 0
IsLastMarkerPrefix bytes end position = FindsLastNeedle (take end bytes) marker_prefix position

-- each marker after the first byte has its prefix before `end`, or up to it
abbrev pub HasMarkerPrefixesBefore : List ℕ → ℕ → Type 0
HasMarkerPrefixesBefore bytes end = (position : ℕ) (format : Format) → HasMarkerAt bytes position format → 0 < position
    → position + length (codes "-----BEGIN ") ≤ end
