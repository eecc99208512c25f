-- Each step inserts one tree.
use Rattle.std.proofs.Common.{[], refl, sym}
use Rattle.gixobj_c_edit.proofs.FrameSteps.{frame_len_lt, frames_broken, frames_held, frames_inserted, nil_of_test, not_nil_of_test}
use Rattle.gixobj_c_edit.specs.Frames.{no_tree}
use Rattle.gixobj_c_edit.proofs.frames.given_of.Goals as goal

pub frames-init : goal.frames-init
frames-init c = ([], [], [], (refl, refl), no_tree, c.new-trees.ensures, c.new-lossy.ensures)

pub returns-in_default-clause-error : goal.returns-in_default-clause-error
returns-in_default-clause-error c = frames_broken c.args.bytes.now c.frames.rest.now c.frames.invariant.0 c.frames.invariant.3
    (not_nil_of_test c.frames.rest.now (sym (c.frames-test.ensures {u = tt}))) c.in_default.ensures.none

pub returns-in-Err-clause-error : goal.returns-in-Err-clause-error
returns-in-Err-clause-error c =
    (c.frames.invariant.0, c.in-Some.content.now, c.frames.rest.now, c.in-Some.after.now, c.frames.invariant.3, c.in-Some.ensures.found)

pub frames-smaller : goal.frames-smaller
frames-smaller c = frame_len_lt c.frames.rest.now c.in-Some.content.now c.in-Some.after.now c.in-Some.ensures.found

pub frames-preserved : goal.frames-preserved
frames-preserved c = frames_inserted c.args.hash c.args.bytes.now c.frames.rest.now c.in-Some.content.now c.in-Some.after.now
    c.frames.given c.insert_tree.new.given c.frames.invariant
    c.in-Some.ensures.found c.in-Ok.ensures.inserted

pub returns-clause-found : goal.returns-clause-found
returns-clause-found c = frames_held c.args.hash c.args.bytes.now c.frames.rest.now c.frames.given c.frames.invariant
    (nil_of_test c.frames.rest.now (sym (c.frames-test.ensures {u = tt})))
