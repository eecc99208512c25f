use Rattle.std.proofs.Common.{arith}
use Rattle.gixobj_records.proofs.RecordLists.{begins_with_records_push, record_rest_lt}
use Rattle.gixobj_records.proofs.records.decode_records.Goals as goal

pub records-preserved : goal.records-preserved
records-preserved c = record {
  begins = begins_with_records_push c.args.input.now c.records.records.items c.push.new.self.items c.records.rest.now c.in-Ok.after.now c.in-Ok.it
      c.in_ok-push-in-Ok.ensures.items c.records.invariant.begins c.in-Ok.ensures.found;
  len = omega (arith, c.records.invariant.len, record_rest_lt c.records.rest.now c.in-Ok.after.now _ c.in-Ok.ensures.found);
}
