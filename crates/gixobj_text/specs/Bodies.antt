-- A body with the start of its trailer block.
use Rattle.std.specs.Prelude.{◌≡◌, ℕ, List, Option, Some}
use Rattle.bstr.specs.BStr.{bstr_bytes}
use Rattle.bstr.specs.declared.bstr.BStr.{BStr}
use Rattle.gixobj_hash.specs.Optional.{bytes_if_some}
use Rattle.gixobj_text.specs.TrailerBlocks.{IsTrailerBlockStart}
use Rattle.gixobj_text.specs.declared.commit.message.BodyRef.{BodyRef}

-- the bytes of the entire body
abbrev pub bytes_of_body : BodyRef → List ℕ
bytes_of_body it = bstr_bytes it.body

-- the start of the trailer block of a body
abbrev pub trailer_block_start : BodyRef → ℕ
trailer_block_start it = it.trailer_start

-- the body of a message, with the start of its trailer block
abbrev pub IsBodyOf : Option BStr → BodyRef → Type 0
IsBodyOf body it = (bytes_if_some body ≡ Some (bytes_of_body it))
    × IsTrailerBlockStart (bytes_of_body it) (trailer_block_start it)
