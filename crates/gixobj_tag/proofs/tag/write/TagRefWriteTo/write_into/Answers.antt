-- The contract of the tag is that of `write_tag`, which rejects the name alone.
use Rattle.std.proofs.Common.{inl}
use Rattle.gixobj_tag.proofs.TagWrites.{lacks_room_of_lines}
use Rattle.gixobj_tag.specs.TagViews.{tag_lines}
use Rattle.gixobj_tag.proofs.tag.write.TagRefWriteTo.write_into.Goals as goal

pub returns-in-Ok-clause-no_error : goal.returns-in-Ok-clause-no_error
returns-in-Ok-clause-no_error g c = λ value parts rejected. c.in-Ok.ensures.no_error value parts (inl rejected)

pub returns-in-Err-clause-room : goal.returns-in-Err-clause-room
returns-in-Err-clause-room g c =
    lacks_room_of_lines (tag_lines c.args.self.now) (g.S.Sink.view c.args.sink.now) c.in-Err.error c.in-Err.ensures.room
