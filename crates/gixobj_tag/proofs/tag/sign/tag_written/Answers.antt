-- The error of an encoding is that of a writer to an empty list.
use Rattle.std.proofs.Common.{◌≡◌, ◌-◌, Err, arith, rules}
use Rattle.std.specs.Prelude.{vec_capacity, vec_len}
use Rattle.gixobj_streams.proofs.Errors.{encoding_error_of_list}
use Rattle.gixobj_tag.specs.TagViews.{owned_tag_lines}
use Rattle.gixobj_tag.specs.TagWriting.{IsOwnedTagError, encode_tag}
use Rattle.gixobj_tag.proofs.tag.sign.tag_written.Goals as goal

pub returns-in_err-write_to_vec-clause-error : goal.returns-in_err-write_to_vec-clause-error
returns-in_err-write_to_vec-clause-error c =
    let tag = c.args.tag.now in
    let content = c.new-content.result in
    let full : vec_capacity content - vec_len content ≡ 0 = omega arith in
    let is : c.from_residual.result ≡ Err c.in_err-write_to_vec.field-0.0 = search rules in
    rw is (encoding_error_of_list (IsOwnedTagError tag) (encode_tag (owned_tag_lines tag)) content.items (vec_capacity content - vec_len content)
    c.write_to_vec.new.out c.in_err-write_to_vec.field-0.0 c.new-content.ensures.items full c.in_err-write_to_vec.ensures.error)
