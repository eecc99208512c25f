use Rattle.std.proofs.Common.{rules, ◌≡◌, Err, Ok, Some, inl, inr, length, subst, sym}
use Rattle.gixobj_hash.specs.Hash.{id_of}
use Rattle.gixobj_hash.specs.declared.hash.kind.Kind.TheVariants.{Sha1}
use Rattle.gixobj_hash.specs.declared.hash.object_id.ObjectId.{ObjectId}
use Rattle.gixobj_store_keep.specs.declared.write.Error.TheVariants as write
use Rattle.gixobj_store_find.proofs.EncodingErrors.{cannot_encode_to_list}
use Rattle.gixobj_store_find.proofs.NeverResults.{answers_id_of_content}
use Rattle.gixobj_store_find.specs.NeverWrites.{AnswersId}
use Rattle.gixobj_store_find.proofs.find.never.write.NeverWrite.write.Goals as goal

pub returns-clause-written : goal.returns-clause-written
returns-clause-written g c =
    let kind = g.T.WriteTo.object_kind c.args.object.now in
    let content = g.T.WriteTo.encoding c.args.object.now in
    let id : c.compute_hash.result ≡ id_of Sha1 kind content = search rules in
    inl (
      c.in_ok-write_to_vec.ensures.no_error,
      subst (λ (it : ObjectId). AnswersId kind (length content) (Some content) (Ok it)) (sym id)
          (answers_id_of_content kind content),
    )

pub returns-in_err-write_to_vec-clause-written : goal.returns-in_err-write_to_vec-clause-written
returns-in_err-write_to_vec-clause-written g c =
    let object = c.args.object.now in
    let is : c.from_residual.result ≡ Err (write.Encode c.in_err-write_to_vec.field-0.0) = search rules in
    rw is (inr (cannot_encode_to_list (g.T.WriteTo.rejects object) (g.T.WriteTo.encoding object) c.new-content.result c.write_to_vec.new.out
    c.in_err-write_to_vec.field-0.0 c.new-content.ensures.items c.in_err-write_to_vec.ensures.error))

pub returns-in_err-write_to_vec-clause-error : goal.returns-in_err-write_to_vec-clause-error
returns-in_err-write_to_vec-clause-error g c =
    let object = c.args.object.now in
    let is : c.from_residual.result ≡ Err (write.Encode c.in_err-write_to_vec.field-0.0) = search rules in
    rw is (cannot_encode_to_list (g.T.WriteTo.rejects object) (g.T.WriteTo.encoding object) c.new-content.result c.write_to_vec.new.out
    c.in_err-write_to_vec.field-0.0 c.new-content.ensures.items c.in_err-write_to_vec.ensures.error)
