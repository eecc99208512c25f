use Rattle.gixobj_walks_marks.proofs.Kept.{no_marks}
use Rattle.gixobj_walks_marks.proofs.reading.Reading.new.Goals as goal

pub returns-clause-left : goal.returns-clause-left
returns-clause-left c = no_marks c.new.result.items c.new-2.result.items c.new-2.ensures.items

pub returns-clause-right : goal.returns-clause-right
returns-clause-right c = no_marks c.new.result.items c.new-3.result.items c.new-3.ensures.items
