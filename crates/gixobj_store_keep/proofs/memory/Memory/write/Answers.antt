-- An error of the encoding is that of a writer to an empty list.
use Rattle.std.proofs.Common.{◌≡◌, ◌-◌, Err, arith, rules}
use Rattle.std.specs.Prelude.{vec_capacity, vec_len}
use Rattle.gixobj_streams.proofs.Errors.{encoding_error_of_list}
use Rattle.gixobj_store_keep.specs.declared.write.Error.TheVariants as write
use Rattle.gixobj_store_keep.proofs.memory.Memory.write.Goals as goal

pub returns-in_err-write_to_vec-clause-error : goal.returns-in_err-write_to_vec-clause-error
returns-in_err-write_to_vec-clause-error g c =
    let object = c.args.object.now in
    let content = c.new-bytes.result in
    let full : vec_capacity content - vec_len content ≡ 0 = omega arith in
    let is : c.from_residual.result ≡ Err (write.Encode c.in_err-write_to_vec.field-0.0) = search rules in
    rw is (encoding_error_of_list (g.T.WriteTo.rejects object) (g.T.WriteTo.encoding object) content.items (vec_capacity content - vec_len content)
    c.write_to_vec.new.out c.in_err-write_to_vec.field-0.0 c.new-bytes.ensures.items full c.in_err-write_to_vec.ensures.error)
