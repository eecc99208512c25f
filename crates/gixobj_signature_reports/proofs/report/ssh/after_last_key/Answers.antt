use Rattle.std.proofs.Common.{rules, ◌≡◌, Some, codes, drop, length, sym}
use Rattle.gixobj_hash.specs.Bytes.{space}
use Rattle.gixobj_hash.specs.ByteStrings.{SplitsAtLast}
use Rattle.gixobj_signature_reports.specs.Fields.{after_prefix}
use Rattle.gixobj_signature_reports.proofs.LastPositions.{key_here}
use Rattle.gixobj_signature_reports.proofs.report.ssh.after_last_key.Goals as goal

pub returns-in-Some-after_at : goal.returns-in-Some-after_at
returns-in-Some-after_at c =
    let split : SplitsAtLast space c.positions.remaining.now c.in-Some.prefix.now c.in-Some.field-0-1.now = search rules in
    let is : Some c.in-Some-after_at.rest.now ≡ after_prefix (codes " key ") (drop (length c.in-Some.prefix.now) c.args.line.now) = search rules in
    key_here c.args.line.now c.positions.remaining.now c.in-Some.prefix.now c.in-Some.field-0-1.now c.positions.invariant.0 split
    c.in-Some-after_at.rest.now c.positions.invariant.1 (sym is)
