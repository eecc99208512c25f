use Rattle.std.proofs.Common.{◌≡◌, Err, inr, rules}
use Rattle.gixobj_store_keep.specs.declared.write.Error.TheVariants as write
use Rattle.gixobj_store_find.proofs.EncodingErrors.{cannot_encode_to_list}
use Rattle.gixobj_store_find.proofs.traits.write.memory.RefCellMemoryWrite.write.Goals as goal

pub returns-in_err-write_to_vec : goal.returns-in_err-write_to_vec
returns-in_err-write_to_vec g c =
    let object = c.args.object.now in
    let is : c.from_residual.result ≡ Err (write.Encode c.in_err-write_to_vec.field-0.0) = search rules in
    rw is (inr (cannot_encode_to_list (g.T.WriteTo.rejects object) (g.T.WriteTo.encoding object) c.new-content.result c.write_to_vec.new.out
    c.in_err-write_to_vec.field-0.0 c.new-content.ensures.items c.in_err-write_to_vec.ensures.error))
