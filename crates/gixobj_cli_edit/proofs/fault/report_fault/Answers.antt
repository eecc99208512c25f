-- The written line is that of the fault.
use Rattle.std.proofs.Common.{◌≡◌, ℕ, List, rules, subst}
use Rattle.gixobj_cli_edit.specs.Faults.{fault_line}
use Rattle.gixobj_cli_show.specs.Engine.{IsPrinted}
use Rattle.gixobj_cli_edit.proofs.fault.report_fault.Goals as goal

pub returns-in-BadLine-clause-reported : goal.returns-in-BadLine-clause-reported
returns-in-BadLine-clause-reported g c =
    let same : c.deref-in-BadLine.result.now ≡ fault_line c.args.fault = search rules in
    subst (λ (line : List ℕ). IsPrinted (g.E.Sink.view c.args.errors.now) (g.E.Sink.view c.report_line.new.errors) line) same c.report_line.ensures.reported
