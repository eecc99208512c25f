-- An error of the digest is that of a writer to an empty list.
use Rattle.std.proofs.Common.{◌≡◌, ◌-◌, Err, arith, rules}
use Rattle.std.specs.Prelude.{vec_capacity, vec_len}
use Rattle.gixobj_streams.proofs.Errors.{encoding_error_of_list}
use Rattle.gixobj_encode.proofs.traits.WriteTo.compute_id.Goals as goal

pub returns-in_err-write_to_vec-clause-error : goal.returns-in_err-write_to_vec-clause-error
returns-in_err-write_to_vec-clause-error g c =
    let object = c.args.self.now in
    let content = c.new-content.result in
    let full : vec_capacity content - vec_len content ≡ 0 = omega arith in
    let is : c.from_residual.result ≡ Err c.in_err-write_to_vec.field-0.0 = search rules in
    rw is (encoding_error_of_list (g.Self.WriteTo.rejects object) (g.Self.WriteTo.encoding object) content.items (vec_capacity content - vec_len content)
    c.write_to_vec.new.out c.in_err-write_to_vec.field-0.0 c.new-content.ensures.items full c.in_err-write_to_vec.ensures.error)
