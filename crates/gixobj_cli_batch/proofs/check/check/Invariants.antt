use Rattle.std.proofs.Common.{◌≤◌, map, take}
use Rattle.gixobj_cli_batch.proofs.Records.{HasChecks}
use Rattle.gixobj_records.specs.Records.{record_view}
use Rattle.gixobj_cli_batch.proofs.check.check.Given as goal

-- the lines and the numbers of the records so far; no more are faulty or missing than were checked
abbrev pub invariant-loop-it : goal.invariant-loop-it
invariant-loop-it l = record {
  has : HasChecks l.strict (map record_view (take l.it-index l.records)) l.lines.items l.faulty l.missing;
  faulty : l.faulty ≤ l.it-index;
  missing : l.missing ≤ l.it-index;
}
