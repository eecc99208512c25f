-- Faults of a script that the program runs, and the lines that report them.
use Rattle.std.specs.Prelude.{ℕ, List, ◌++◌, codes, decimal}
use Rattle.gixobj_cli_edit.specs.declared.fault.Fault.{Fault}
use Rattle.gixobj_cli_edit.specs.declared.fault.Fault.TheVariants as fault
use Rattle.gixobj_hash.specs.FieldFormat.{encode_line}
use Rattle.gixobj_cli_show.specs.Failure.{line_of, exit_status_of}
use Rattle.gixobj_editor_commands.specs.declared.script.ScriptError.{ScriptError}
use Rattle.gixobj_editor_commands.specs.declared.script.ScriptError.TheVariants as script
use Rattle.gixobj_cli_show.specs.declared.failure.Failure.TheVariants as failure

-- the fault of an error of a script
abbrev pub fault_of : ScriptError → Fault
fault_of (script.BadLine number) = fault.BadLine number
fault_of script.OutOfMemory = fault.Refused failure.OutOfMemory

-- the line that reports a bad line by its number
abbrev pub bad_line : ℕ → List ℕ
bad_line number = encode_line (codes "gixobj: line " ++ decimal number)

-- the line for standard error
abbrev pub fault_line : Fault → List ℕ
fault_line (fault.BadLine number) = bad_line number
fault_line (fault.Refused it) = line_of it

-- the exit status
abbrev pub fault_status : Fault → ℕ
fault_status (fault.BadLine number) = 1
fault_status (fault.Refused it) = exit_status_of it
