use Rattle.std.proofs.Common.{Some, [], refl, sym}
use Rattle.std.proofs.lemmas.List.{append-nil}
use Rattle.gixobj_store_find.proofs.traits.write.memory.RefCellMemoryWrite.write_buf.Goals as goal

pub returns : goal.returns
returns c = (Some [], (c.args.from.now, record { consumed = sym (append-nil c.args.from.now); counted = refl }, c.in_ok-insert.ensures.id))
