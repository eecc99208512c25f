-- The bodies of tags (gitdatamodel, "tag objects"; gitformat-signature, "Tag signatures").
use Rattle.std.specs.Prelude.{◌≡◌, ◌+◌, ◌==◌, ℕ, Bool, List, [], ◌∷◌, ◌++◌, IsFalse, IsTrue, Option, Some, None, length}
use Rattle.std.specs.List.{list_all}
use Rattle.gixobj_hash.specs.Bytes.{newline}
use Rattle.gixobj_parse.specs.Markers.{HasNoMarker, IsMarkerPlace}
use Rattle.gixobj_parse.specs.declared.signature.Format.{Format}

-- the bytes are newlines alone, or there are none
abbrev pub are_newlines : List ℕ → Bool
are_newlines content = list_all (λ byte. byte == newline) content

-- the bytes split at the last marker of a signature at the start of a line. Without a marker they are the message;
-- else the newline before the marker is in neither part
pub data IsParted : List ℕ → List ℕ → Option (List ℕ) → Type 0 where
  unsigned : (content : List ℕ) → HasNoMarker content → IsParted content content None
  signed_at_once : (content : List ℕ) (format : Format) → IsMarkerPlace content 0 format
      → IsParted content [] (Some content)
  signed : (content message signature : List ℕ) (format : Format) → content ≡ message ++ newline ∷ signature
      → IsMarkerPlace content (length message + 1) format
      → IsParted content message (Some signature)

-- the body is newlines alone, and is the message. Or a newline comes first, and the content after it, which isn't
-- newlines alone, splits into message and signature
pub data IsBody : List ℕ → List ℕ → Option (List ℕ) → Type 0 where
  newlines_alone : (body : List ℕ) → IsTrue (are_newlines body) → IsBody body body None
  after_a_newline : (body content message : List ℕ) (signature : Option (List ℕ)) → body ≡ newline ∷ content
      → IsFalse (are_newlines content) → IsParted content message signature
      → IsBody body message signature

-- the bytes are no body: they do not begin with a newline, and are not empty
abbrev pub IsMalformedBody : List ℕ → Type 0
IsMalformedBody body = (message : List ℕ) (signature : Option (List ℕ)) → ¬ IsBody body message signature
