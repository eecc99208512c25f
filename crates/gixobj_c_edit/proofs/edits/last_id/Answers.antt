-- The last reply is that of a write that is done.
use Rattle.std.proofs.Common.{◌∙◌, sym}
use Rattle.gixobj_c_edit.proofs.Emitted.{last_id_is_written}
use Rattle.gixobj_c_edit.proofs.edits.last_id.Goals as goal

pub returns : goal.returns
returns c = last_id_is_written c.args.replies.now c.last.result c.in-Some.last c.in-Some-written_id.id c.requires.write c.requires.done c.last.ensures.value
    c.in-Some.is (sym c.written_id.ensures ∙ c.in-Some-written_id.is)
