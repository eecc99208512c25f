use Rattle.std.proofs.Common.{◌≡◌, ◌++◌, take}
use Rattle.std.specs.List.{flat_map}
use Rattle.gixobj_cli_batch.specs.FindingLines.{finding_line}
use Rattle.gixobj_cli_batch.proofs.findings.push_findings.Given as goal

-- the lines of the findings so far are appended
abbrev pub invariant-loop-it : goal.invariant-loop-it
invariant-loop-it l =
    l.lines.items ≡ l.initial.lines.items ++ flat_map (finding_line l.strict l.id l.kind) (take l.it-index l.findings)
