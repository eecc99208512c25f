-- The report of a run, by the bytes and the lines as the code passes them on; used for `run`.
use Rattle.std.proofs.Common.{◌≡◌, ℕ, List, Option, Some, subst}
use Rattle.std.specs.Io.KnownBytes.{Appends}
use Rattle.std.specs.declared.io.Error as io
use Rattle.gixobj_cli_batch.specs.Arguments.{NamesCommand}
use Rattle.gixobj_cli_batch.specs.Reports.{IsReportError, Reports}
use Rattle.gixobj_cli_batch.specs.Runs.{AppendsPrefix, HasReport, ReadsAll, RunFails, after_lines, no_lines, no_output}
use Rattle.gixobj_cli_batch.specs.declared.arguments.Command.{Command}
use Rattle.gixobj_cli_batch.specs.declared.fault.Fault.{Fault}
use Rattle.gixobj_cli_batch.specs.declared.fault.Fault.TheVariants as program

module _ (arguments : List (List ℕ)) (input input' output output' : Option (List ℕ)) (SameInput SameOutput : Type 0) (command : Command)
    (bytes given : List ℕ) (named : NamesCommand arguments command) (read : ReadsAll input input' bytes) (same : given ≡ bytes) where
  has_report : (lines : List ℕ) (fault : Option Fault) → Reports command given lines fault → HasReport arguments input input' lines fault
  has_report lines fault reports = record {
    command = command;
    named = named;
    bytes = bytes;
    read = read;
    report = subst (λ (it : List ℕ). Reports command it lines fault) same reports;
  }

  pub fails_without_lines : (fault : Fault) → IsReportError command given fault → SameOutput
      → RunFails arguments input input' output output' SameInput SameOutput fault
  fails_without_lines fault error unchanged =
      no_lines command bytes fault named read (subst (λ (it : List ℕ). IsReportError command it fault) same error) unchanged

  module _ (lines written : List ℕ) (printed : written ≡ lines) where
    pub fails_after_lines : (last : Option Fault) (fault : Fault) → last ≡ Some fault → Reports command given lines last → Appends output output' written
        → RunFails arguments input input' output output' SameInput SameOutput fault
    fails_after_lines last fault is reports appended =
        after_lines lines fault (subst (HasReport arguments input input' lines) is (has_report lines last reports))
        (subst (Appends output output') printed appended)

    pub fails_with_output : (last : Option Fault) → Reports command given lines last → AppendsPrefix output output' written → (cause : io.Error)
        → RunFails arguments input input' output output' SameInput SameOutput (program.Failed cause)
    fails_with_output last reports appended cause =
        no_output lines last (has_report lines last reports) (subst (AppendsPrefix output output') printed appended) cause
