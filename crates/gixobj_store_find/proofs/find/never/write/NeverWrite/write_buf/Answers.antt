use Rattle.std.proofs.Common.{Ok, Some, length, subst, sym}
use Rattle.gixobj_hash.specs.declared.hash.object_id.ObjectId.{ObjectId}
use Rattle.gixobj_store_find.proofs.NeverResults.{answers_id_of_content}
use Rattle.gixobj_store_find.specs.NeverWrites.{AnswersId}
use Rattle.gixobj_store_find.proofs.find.never.write.NeverWrite.write_buf.Goals as goal

pub returns-clause-answer : goal.returns-clause-answer
returns-clause-answer c = subst (λ (it : ObjectId). AnswersId c.args.kind (length c.args.from.now) (Some c.args.from.now) (Ok it)) (sym c.compute_hash.ensures)
    (answers_id_of_content c.args.kind c.args.from.now)
