use Rattle.std.proofs.Common.{rules}
use Rattle.gixobj_store_find.proofs.find.never.write.NeverWrite.write_stream_with_known_id.Goals as goal

pub returns-clause-answer : goal.returns-clause-answer
returns-clause-answer g c = search rules
