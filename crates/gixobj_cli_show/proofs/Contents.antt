-- An error of a loose object is an error of `show`.
use Rattle.std.proofs.Common.{ℕ, List}
use Rattle.gixobj_hash.specs.Decode.{IsLooseHeaderError, IsLooseContentError}
use Rattle.gixobj_hash.specs.declared.decode.LooseContentError.{LooseContentError}
use Rattle.gixobj_hash.specs.declared.decode.LooseContentError.TheVariants.{Header, Short}
use Rattle.gixobj_hash.specs.declared.decode.LooseHeaderDecodeError.{LooseHeaderDecodeError}
use Rattle.gixobj_hash.specs.declared.decode.LooseHeaderDecodeError.TheVariants as header
use Rattle.gixobj_hash.proofs.Headers.{no_error_of_loose_header, parts_of_loose_header}
use Rattle.gixobj_cli_show.specs.Failure.{BeginsWithNoLooseHeader, content_error}
use Rattle.gixobj_cli_show.specs.Show.{IsShowError}

no_loose_header_of_error : (input : List ℕ) (error : LooseHeaderDecodeError) → IsLooseHeaderError input error → BeginsWithNoLooseHeader input
no_loose_header_of_error input error rejected kind size used header = no_error_of_loose_header input kind size used error
    (parts_of_loose_header input kind size used header) rejected

pub show_error_of_content : (input : List ℕ) (error : LooseContentError) → IsLooseContentError input error → IsShowError input (content_error error)
show_error_of_content input (Header header.OutOfMemory) rejected = no_loose_header_of_error input header.OutOfMemory rejected
show_error_of_content input (Header (header.InvalidHeader message)) rejected = no_loose_header_of_error input (header.InvalidHeader message) rejected
show_error_of_content input (Header (header.ObjectHeader token)) rejected = no_loose_header_of_error input (header.ObjectHeader token) rejected
show_error_of_content input (Header (header.ParseIntegerError fault message copy)) rejected =
    no_loose_header_of_error input (header.ParseIntegerError fault message copy) rejected
show_error_of_content input (Short size) (kind, rest, begins, less) = (kind, size, rest, begins, less)
