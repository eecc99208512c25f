-- Why a run fails: each error is one of its steps.
use Rattle.std.proofs.Common.{refl}
use Rattle.gixobj_cli_batch.proofs.Reported.{fails_after_lines, fails_with_output, fails_without_lines}
use Rattle.gixobj_cli_batch.specs.Runs.{no_command, no_input}
use Rattle.gixobj_cli_batch.proofs.engine.run.Goals as goal

pub returns-in-None-clause-error : goal.returns-in-None-clause-error
returns-in-None-clause-error g c = no_command c.in-None.ensures.none refl refl

pub returns-in-Err-clause-error : goal.returns-in-Err-clause-error
returns-in-Err-clause-error g c = no_input c.in-Some.command c.in-Some.ensures.found refl c.in-Err.cause

pub returns-in-Err-report_of-clause-error : goal.returns-in-Err-report_of-clause-error
returns-in-Err-report_of-clause-error g c =
    fails_without_lines _ _ _ _ _ _ _ c.in-Some.command c.in-Ok.bytes.items _ c.in-Some.ensures.found c.in-Ok.ensures c.as_slice.ensures.value
    c.in-Err-report_of.fault c.in-Err-report_of.ensures.error refl

pub returns-in-Err-write_lines-clause-error : goal.returns-in-Err-write_lines-clause-error
returns-in-Err-write_lines-clause-error g c =
    fails_with_output _ _ _ _ _ _ _ c.in-Some.command c.in-Ok.bytes.items _ c.in-Some.ensures.found c.in-Ok.ensures c.as_slice.ensures.value
    c.in-Ok-report_of.report.lines.items _ c.as_slice-2.ensures.value c.in-Ok-report_of.report.fault c.in-Ok-report_of.ensures.printed
    c.in-Err-write_lines.ensures.error c.in-Err-write_lines.cause

pub returns-clause-error : goal.returns-clause-error
returns-clause-error g c =
    fails_after_lines _ _ _ _ _ _ _ c.in-Some.command c.in-Ok.bytes.items _ c.in-Some.ensures.found c.in-Ok.ensures c.as_slice.ensures.value
    c.in-Ok-report_of.report.lines.items _ c.as_slice-2.ensures.value c.in-Ok-report_of.report.fault c.in-Some-fault.fault c.in-Some-fault.is
    c.in-Ok-report_of.ensures.printed c.in-Ok-write_lines.ensures.written
