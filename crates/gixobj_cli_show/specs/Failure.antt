-- The errors of the program, with their lines and exit statuses.
use Rattle.std.specs.Prelude.{ℕ, List, codes}
use Rattle.gixobj_hash.specs.Decode.{HasLooseHeaderOfLength}
use Rattle.gixobj_hash.specs.declared.decode.LooseContentError.{LooseContentError}
use Rattle.gixobj_hash.specs.declared.decode.LooseContentError.TheVariants.{Header, Short}
use Rattle.gixobj_hash.specs.declared.decode.LooseHeaderDecodeError.TheVariants as header
use Rattle.gixobj_hash.specs.declared.kind.Kind.{Kind}
use Rattle.gixobj_cli_show.specs.declared.failure.Failure.{Failure}
use Rattle.gixobj_cli_show.specs.declared.failure.Failure.TheVariants.{Usage, InputFailed, OutputFailed, OutOfMemory}
use Rattle.gixobj_cli_show.specs.declared.failure.Failure.TheVariants.{BadHeader, ShortData, NotATree, BadTree}
use Rattle.gixobj_hash.specs.FieldFormat.{encode_line}

-- the input does not begin with a loose header
abbrev pub BeginsWithNoLooseHeader : List ℕ → Type 0
BeginsWithNoLooseHeader input = (kind : Kind) (size used : ℕ) → ¬ HasLooseHeaderOfLength input kind size used

-- the program's error for that of a loose object; it leaves out why a header is malformed
abbrev pub content_error : LooseContentError → Failure
content_error (Header header.OutOfMemory) = OutOfMemory
content_error (Header error) = BadHeader
content_error (Short size) = ShortData

-- the line for standard error
abbrev pub line_of : Failure → List ℕ
line_of Usage = encode_line (codes "usage: gixobj show|tree|edit [sha256]")
line_of InputFailed = encode_line (codes "gixobj: input failed")
line_of OutputFailed = encode_line (codes "gixobj: output failed")
line_of OutOfMemory = encode_line (codes "gixobj: out of memory")
line_of BadHeader = encode_line (codes "gixobj: bad header")
line_of ShortData = encode_line (codes "gixobj: short data")
line_of NotATree = encode_line (codes "gixobj: not a tree")
line_of BadTree = encode_line (codes "gixobj: bad tree")

-- the exit status: 2 if the arguments are invalid, and otherwise 1
abbrev pub exit_status_of : Failure → ℕ
exit_status_of Usage = 2
exit_status_of InputFailed = 1
exit_status_of OutputFailed = 1
exit_status_of OutOfMemory = 1
exit_status_of BadHeader = 1
exit_status_of ShortData = 1
exit_status_of NotATree = 1
exit_status_of BadTree = 1
