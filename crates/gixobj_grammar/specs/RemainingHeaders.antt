-- The extra headers that an iterator yields, and those that it has yet to yield.
use Rattle.std.specs.Prelude.{List, map}
use Rattle.bstr.specs.BStr.{bstr_bytes}
use Rattle.bstr.specs.declared.bstr.BStr.{BStr}
use Rattle.gixobj_parse.specs.HeaderReading.{header_of, owned_header_of}
use Rattle.gixobj_hash.specs.HeaderFormat.{Header}
use Rattle.gixobj_grammar.specs.declared.extra_headers.BorrowedHeaders.{BorrowedHeaders}
use Rattle.gixobj_grammar.specs.declared.extra_headers.OwnedHeaders.{OwnedHeaders}

-- a yielded header: a name and a value
abbrev pub pair_of : BStr × BStr → Header
pair_of it = record { name = bstr_bytes it.0; value = bstr_bytes it.1 }

-- the remaining headers of a borrowed commit
abbrev pub remaining_headers : BorrowedHeaders → List Header
remaining_headers headers = map header_of headers.rest.now

-- the remaining headers of an owned commit
abbrev pub remaining_owned_headers : OwnedHeaders → List Header
remaining_owned_headers headers = map owned_header_of headers.rest.now
