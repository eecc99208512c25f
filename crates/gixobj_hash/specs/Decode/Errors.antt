-- How an error of a kind's name becomes an error of a loose header.
use Rattle.gixobj_hash.specs.declared.decode.LooseHeaderDecodeError.{LooseHeaderDecodeError}
use Rattle.gixobj_hash.specs.declared.decode.LooseHeaderDecodeError.TheVariants.{ObjectHeader, OutOfMemory}
use Rattle.gixobj_hash.specs.declared.kind.Error.{Error}
use Rattle.gixobj_hash.specs.declared.kind.Error.TheVariants as kind_error

-- the error of a header for the error of its kind: out of memory becomes the header's own case
abbrev pub header_error : Error → LooseHeaderDecodeError
header_error (kind_error.InvalidObjectKind copy) = ObjectHeader (kind_error.InvalidObjectKind copy)
header_error kind_error.OutOfMemory = OutOfMemory
