use Rattle.std.proofs.Common.{◌≤◌, length, map}
use Rattle.gixobj_records.specs.Records.{BeginsWithRecords, record_view}
use Rattle.gixobj_records.proofs.records.decode_records.Given as goal

-- the input begins with the records so far
abbrev pub invariant-records : goal.invariant-records
invariant-records l = record {
  begins : BeginsWithRecords l.input (map record_view l.records.items) l.rest;
  len : length l.rest ≤ length l.input;
}

abbrev pub decreases-records : goal.decreases-records
decreases-records l = length l.rest
