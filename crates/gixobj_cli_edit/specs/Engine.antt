-- Runs of a script by the program: its input, its output and its errors.
use Rattle.std.specs.Prelude.{◌≡◌, ℕ, List, Option, codes}
use Rattle.gixobj_cli_edit.specs.Edits.{IsEdit, IsScriptRunError}
use Rattle.gixobj_cli_edit.specs.Faults.{fault_line, fault_status}
use Rattle.gixobj_cli_edit.specs.Arguments.{IsEditCommand}
use Rattle.gixobj_cli_edit.specs.declared.fault.Fault.{Fault}
use Rattle.gixobj_cli_edit.specs.declared.fault.Fault.TheVariants as fault
use Rattle.gixobj_editor_commands.specs.declared.script.ScriptError.TheVariants as script
use Rattle.gixobj_streams.specs.Streams.{AppendsAll, FailsToAppend, SinkView}
use Rattle.gixobj_hash.specs.declared.hash.kind.Kind as hash
use Rattle.gixobj_cli_show.specs.Engine.{ReadsAll, IsPrinted, HasWrittenNothing}
use Rattle.gixobj_cli_show.specs.Arguments.{IsCommandOfHash}
use Rattle.gixobj_cli_show.specs.declared.failure.Failure.TheVariants as failure

-- the entire input was read, it is a script, and the bytes report its run on a new editor
abbrev pub IsReportOfInput : List (List ℕ) → Option (List ℕ) → Option (List ℕ) → List ℕ → Type 0
IsReportOfInput arguments rest rest' bytes =
    (hash : hash.Kind) × (script : List ℕ) × IsCommandOfHash arguments (codes "edit") hash × ReadsAll rest rest' script
    × IsEdit hash script bytes

-- the report was written
abbrev pub Edited : List (List ℕ) → Option (List ℕ) → Option (List ℕ) → SinkView → SinkView → Type 0
Edited arguments rest rest' out out' = (bytes : List ℕ) × IsReportOfInput arguments rest rest' bytes
    × AppendsAll out out' bytes

-- the error of a run: the first bad line of the input; a failed input; a failed output, to which a proper prefix of the
-- report was written; or out of memory, of any run
abbrev pub IsEditingError : List (List ℕ) → Option (List ℕ) → Option (List ℕ) → Type 0 → SinkView → SinkView → Fault
    → Type 0
IsEditingError arguments rest rest' may_fail out out' (fault.BadLine number) =
    (hash : hash.Kind) × (bytes : List ℕ) × IsCommandOfHash arguments (codes "edit") hash × ReadsAll rest rest' bytes
    × IsScriptRunError hash bytes (script.BadLine number)
IsEditingError arguments rest rest' may_fail out out' (fault.Refused failure.InputFailed) =
    IsEditCommand arguments × may_fail
IsEditingError arguments rest rest' may_fail out out' (fault.Refused failure.OutputFailed) =
    (bytes : List ℕ) × IsReportOfInput arguments rest rest' bytes × FailsToAppend out out' bytes
IsEditingError arguments rest rest' may_fail out out' (fault.Refused failure.OutOfMemory) = IsEditCommand arguments
IsEditingError arguments rest rest' may_fail out out' (fault.Refused _) = ⊥

-- nothing was written to standard output, unless it failed
abbrev pub EditHasWrittenNothing : Type 0 → Fault → Type 0
EditHasWrittenNothing unchanged (fault.BadLine number) = unchanged
EditHasWrittenNothing unchanged (fault.Refused it) = HasWrittenNothing unchanged it

-- the run failed: the status and the line on standard error report the fault, and nothing was written to standard
-- output, unless it failed
abbrev pub IsFault : List (List ℕ) → Option (List ℕ) → Option (List ℕ) → Type 0 → SinkView → SinkView → SinkView
    → SinkView → Type 0 → ℕ → Type 0
IsFault arguments rest rest' may_fail out out' errors errors' same_output status =
    (it : Fault) × (status ≡ fault_status it) × IsEditingError arguments rest rest' may_fail out out' it
    × IsPrinted errors errors' (fault_line it) × EditHasWrittenNothing same_output it
