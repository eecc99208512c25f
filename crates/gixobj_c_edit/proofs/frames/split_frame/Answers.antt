-- Without a header there is no frame, nor with fewer bytes after it than it states.
use Rattle.gixobj_c_edit.proofs.FrameSteps.{no_frame_of_none, no_frame_of_short}
use Rattle.gixobj_c_edit.proofs.frames.split_frame.Goals as goal

pub returns-in_default-clause-none : goal.returns-in_default-clause-none
returns-in_default-clause-none c = no_frame_of_none c.args.input.now c.tree_header.result c.tree_header.ensures.accepts c.in_default.is

pub returns-then-size-rest-clause-none : goal.returns-then-size-rest-clause-none
returns-then-size-rest-clause-none c = no_frame_of_short c.args.input.now c.tree_header.result c.tree_header.ensures.accepts c.in-Some.size c.in-Some.used
    c.in-Some.is c.if-size-rest.true
