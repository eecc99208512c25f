-- The bytes of optional byte strings, borrowed or owned.
use Rattle.std.specs.Prelude.{ℕ, List, Option, None, Some}
use Rattle.bstr.specs.BStr.{bstr_bytes}
use Rattle.bstr.specs.Owned.{bstring_bytes}
use Rattle.bstr.specs.declared.bstr.BStr.{BStr}
use Rattle.bstr.specs.declared.bstring.BString.{BString}

-- the bytes of an optional borrowed byte string
abbrev pub bytes_if_some : Option BStr → Option (List ℕ)
bytes_if_some None = None
bytes_if_some (Some bytes) = Some (bstr_bytes bytes)

-- the bytes of an optional owned byte string
abbrev pub owned_bytes_if_some : Option BString → Option (List ℕ)
owned_bytes_if_some None = None
owned_bytes_if_some (Some bytes) = Some (bstring_bytes bytes)
