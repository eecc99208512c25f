-- The input, the lines and the exit status of a run of `show`.
use Rattle.std.specs.Prelude.{◌≡◌, ◌⊎◌, ℕ, List, Option, codes}
use Rattle.std.specs.Io.KnownBytes.{Consumes, IsAtEnd}
use Rattle.gixobj_hash.specs.Decode.{IsShort}
use Rattle.gixobj_streams.specs.Streams.{AppendsAll, FailsToAppend, SinkView}
use Rattle.gixobj_hash.specs.declared.hash.kind.Kind as hash
use Rattle.gixobj_cli_show.specs.Failure.{BeginsWithNoLooseHeader, exit_status_of, line_of}
use Rattle.gixobj_cli_show.specs.Show.{IsShowLine}
use Rattle.gixobj_cli_show.specs.Arguments.{IsCommand, IsOtherCommand, IsCommandOfHash}
use Rattle.gixobj_cli_show.specs.declared.failure.Failure.{Failure}
use Rattle.gixobj_cli_show.specs.declared.failure.Failure.TheVariants.{Usage, InputFailed, OutputFailed, OutOfMemory}
use Rattle.gixobj_cli_show.specs.declared.failure.Failure.TheVariants.{BadHeader, ShortData}

-- these bytes were all the remaining ones, and now none remains
abbrev pub ReadsAll : Option (List ℕ) → Option (List ℕ) → List ℕ → Type 0
ReadsAll old new input = Consumes old new input × IsAtEnd new

-- the arguments are `show`, the input was read to its end, and the line is that of the loose object at its beginning
abbrev pub IsAnswer : List (List ℕ) → Option (List ℕ) → Option (List ℕ) → List ℕ → Type 0
IsAnswer arguments rest rest' line =
    (hash : hash.Kind) × (input : List ℕ) × IsCommandOfHash arguments (codes "show") hash × ReadsAll rest rest' input
    × IsShowLine hash input line

-- the line of the loose object was written
abbrev pub Answered : List (List ℕ) → Option (List ℕ) → Option (List ℕ) → SinkView → SinkView → Type 0
Answered arguments rest rest' out out' = (line : List ℕ) × IsAnswer arguments rest rest' line × AppendsAll out out' line

-- the run failed with this error; OutputFailed: a proper prefix of the line of the loose object was written
abbrev pub IsAnswerError : List (List ℕ) → Option (List ℕ) → Option (List ℕ) → Type 0 → SinkView → SinkView → Failure
    → Type 0
IsAnswerError arguments rest rest' may_fail out out' Usage = IsOtherCommand arguments (codes "show")
IsAnswerError arguments rest rest' may_fail out out' InputFailed = IsCommand arguments (codes "show") × may_fail
IsAnswerError arguments rest rest' may_fail out out' OutputFailed = (line : List ℕ) × IsAnswer arguments rest rest' line
    × FailsToAppend out out' line
IsAnswerError arguments rest rest' may_fail out out' OutOfMemory = IsCommand arguments (codes "show")
IsAnswerError arguments rest rest' may_fail out out' BadHeader =
    IsCommand arguments (codes "show") × (input : List ℕ) × ReadsAll rest rest' input × BeginsWithNoLooseHeader input
IsAnswerError arguments rest rest' may_fail out out' ShortData =
    IsCommand arguments (codes "show") × (input : List ℕ) × ReadsAll rest rest' input × IsShort input
IsAnswerError arguments rest rest' may_fail out out' _ = ⊥

-- nothing was read if the arguments are invalid
abbrev pub HasReadNothing : Type 0 → Failure → Type 0
HasReadNothing unchanged Usage = unchanged
HasReadNothing unchanged _ = Unit {0}

-- nothing was written to standard output, unless a write to it failed
abbrev pub HasWrittenNothing : Type 0 → Failure → Type 0
HasWrittenNothing unchanged OutputFailed = Unit {0}
HasWrittenNothing unchanged _ = unchanged

-- the line was written, or a proper prefix of it to a sink without room for it
abbrev pub IsPrinted : SinkView → SinkView → List ℕ → Type 0
IsPrinted errors errors' line = AppendsAll errors errors' line ⊎ FailsToAppend errors errors' line

-- the run failed, and the status and the line on standard error report why; nothing was read if the arguments are
-- invalid, and nothing was written to standard output, unless a write to it failed
abbrev pub IsReportedError : List (List ℕ) → Option (List ℕ) → Option (List ℕ) → Type 0 → SinkView → SinkView → SinkView
    → SinkView → Type 0 → Type 0 → ℕ → Type 0
IsReportedError arguments rest rest' may_fail out out' errors errors' same_input same_output status =
    (cause : Failure) × (status ≡ exit_status_of cause) × IsAnswerError arguments rest rest' may_fail out out' cause
    × IsPrinted errors errors' (line_of cause) × HasReadNothing same_input cause × HasWrittenNothing same_output cause
