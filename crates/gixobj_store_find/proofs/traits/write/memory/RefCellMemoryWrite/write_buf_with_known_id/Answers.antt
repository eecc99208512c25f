use Rattle.std.proofs.Common.{Some, [], refl, sym}
use Rattle.std.proofs.lemmas.List.{append-nil}
use Rattle.gixobj_store_find.proofs.traits.write.memory.RefCellMemoryWrite.write_buf_with_known_id.Goals as goal

pub returns : goal.returns
returns c = (refl, (Some [], (c.args.from.now, record { consumed = sym (append-nil c.args.from.now); counted = refl })))
