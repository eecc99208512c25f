-- Runs of the program: its input, its output, its errors and its exit status.
use Rattle.std.specs.Prelude.{◌≡◌, ◌++◌, ℕ, List, Option, None, Some}
use Rattle.std.specs.Io.KnownBytes.{Appends, Consumes, IsAtEnd}
use Rattle.std.specs.declared.io.Error as io
use Rattle.gixobj_cli_batch.specs.Arguments.{NamesCommand, NamesNoCommand}
use Rattle.gixobj_cli_batch.specs.Reports.{IsReportError, Reports}
use Rattle.gixobj_cli_batch.specs.declared.arguments.Command.{Command}
use Rattle.gixobj_cli_batch.specs.declared.fault.Fault.{Fault}
use Rattle.gixobj_cli_batch.specs.declared.fault.Fault.TheVariants as program

-- the exit status of a run that fails: 2 for invalid arguments, else 1
abbrev pub fault_status : Fault → ℕ
fault_status program.Usage = 2
fault_status other = 1

-- these bytes were all the remaining ones, and now none remains
abbrev pub ReadsAll : Option (List ℕ) → Option (List ℕ) → List ℕ → Type 0
ReadsAll before after input = Consumes before after input × IsAtEnd after

-- a prefix of the lines was appended
pub record AppendsPrefix (before after : Option (List ℕ)) (lines : List ℕ) : Type 0 where
  pub prefix : List ℕ
  pub missing : List ℕ
  pub joined : lines ≡ prefix ++ missing
  pub appended : Appends before after prefix

-- a run with these arguments and this input; `SameInput` says that nothing was read, and `SameOutput` that nothing was
-- written
module _ (arguments : List (List ℕ)) (input input' : Option (List ℕ)) where
  -- the arguments name a command, the entire input was read; these are the command's lines, and the error after them
  pub record HasReport (lines : List ℕ) (fault : Option Fault) : Type 0 where
    pub command : Command
    pub named : NamesCommand arguments command
    pub bytes : List ℕ
    pub read : ReadsAll input input' bytes
    pub report : Reports command bytes lines fault

  -- the lines of the command were written, and no error follows them
  pub record HasPrinted (output output' : Option (List ℕ)) : Type 0 where
    pub lines : List ℕ
    pub report : HasReport lines None
    pub written : Appends output output' lines

  -- a run that fails: the arguments name no command; the input failed; the command has no lines; an error follows its
  -- lines; or the output failed, after a prefix of them
  pub data RunFails (output output' : Option (List ℕ)) (SameInput SameOutput : Type 0) : Fault → Type 0 where
    no_command : NamesNoCommand arguments → SameInput → SameOutput
        → RunFails output output' SameInput SameOutput program.Usage
    no_input : (command : Command) → NamesCommand arguments command → SameOutput → (cause : io.Error)
        → RunFails output output' SameInput SameOutput (program.Failed cause)
    no_lines : (command : Command) (bytes : List ℕ) (fault : Fault) → NamesCommand arguments command
        → ReadsAll input input' bytes → IsReportError command bytes fault → SameOutput
        → RunFails output output' SameInput SameOutput fault
    after_lines : (lines : List ℕ) (fault : Fault) → HasReport lines (Some fault) → Appends output output' lines
        → RunFails output output' SameInput SameOutput fault
    no_output : (lines : List ℕ) (last : Option Fault) → HasReport lines last → AppendsPrefix output output' lines
        → (cause : io.Error) → RunFails output output' SameInput SameOutput (program.Failed cause)
