use Rattle.gixobj_store_find.proofs.NeverResults.{answers_known_id_of_content}
use Rattle.gixobj_store_find.proofs.find.never.write.NeverWrite.write_buf_with_known_id.Goals as goal

pub returns-clause-answer : goal.returns-clause-answer
returns-clause-answer c = answers_known_id_of_content c.args.id c.args.kind c.args.from.now
