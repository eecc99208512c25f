-- The loop of a write over its frames emits the trees below a directory: each frame begins, waits, ends and is resumed.
-- They are the clauses of `emit_below`.
use Rattle.std.proofs.Common.{◌≡◌, ◌∙◌, ◌++◌, [], Ok, Err, refl, sym, ap, subst, arith}
use Rattle.std.specs.Prelude.{reverse}
use Rattle.std.specs.Fn.{CalledAt}
use Rattle.gixobj_editor_files.specs.Emission.{EmitsBelow}
use Rattle.gixobj_editor_write.specs.Calls.{IsStorable}
use Rattle.gixobj_editor_write.specs.Frames.{HasEmitted, frame_weight}
use Rattle.gixobj_editor_open.specs.Nested.{bases_of, dirs_of}
use Rattle.gixobj_editor_write.specs.WriteErrors.{IsWriteError}
use Rattle.gixobj_editor_write.specs.declared.frames.Frame.{Frame}
use Rattle.gixobj_editor_open.proofs.Results.{if_err_weaken}
use Rattle.gixobj_editor_write.proofs.Emitting.{callable_after_folds, stopped_at_call}
use Rattle.gixobj_editor_write.proofs.BegunFrames.{storable_of_ended}
use Rattle.gixobj_editor_write.proofs.WaitingFrames.{EmitsAt, adds_of_ended, called_of_ended, counted_of_ended, emits_at_exists, emits_of_ended, frames_weight}
use Rattle.gixobj_editor_write.proofs.WaitingFrames.{frames_weight_pop, memory_before_begun, memory_of_ended, reverse_push, stopped_in_resume, stopped_in_step}
use Rattle.gixobj_editor_write.proofs.WaitingFrames.{under_way_begun, under_way_ended, under_way_first, under_way_of_equal, under_way_visited}
use Rattle.gixobj_editor_write.proofs.WaitingFrames.{under_way_resumed, waits_of_parent}
use Rattle.gixobj_editor_open.proofs.PieceEnds.{nil_of_length}
use Rattle.gixobj_editor_write.proofs.walk.emit_below.Goals as goal

pub returns-in_err-frame-clause-error : goal.returns-in_err-frame-clause-error
returns-in_err-frame-clause-error g c =
    let root = c.args.node.now in
    let found = emits_at_exists root c.begin.ensures.root.0 c.begin.ensures.root.1 in
    if_err_weaken c.from_residual.result _ _ c.from_residual.ensures.1
    (stopped_at_call (λ f p h. CalledAt g.F.FnMut f p.1 (Ok p.0) h) (λ f tree x h. CalledAt g.F.FnMut f tree (Err x) h)
    (EmitsAt root) c.args.out.now c.args.out.now [] found.0 refl found.1)

pub frames-init : goal.frames-init
frames-init g c =
    let begun = c.in_ok-frame.ensures {u = tt} in record {
      so = under_way_of_equal (ap reverse (sym c.new-above.ensures.items)) (under_way_first c.in_ok-frame.frame begun.node begun.come);
      callable = c.requires.callable;
    }

pub returns-in_err-advance-clause-error : goal.returns-in_err-advance-clause-error
returns-in_err-advance-clause-error g c =
    if_err_weaken c.from_residual-in_err-advance.result _ _ c.from_residual-in_err-advance.ensures.1
    (λ error is. subst (IsWriteError (λ f p h. CalledAt g.F.FnMut f p.1 (Ok p.0) h) (λ f tree x h. CalledAt g.F.FnMut f tree (Err x) h)
    (EmitsAt c.args.node.now) c.args.out.now c.advance.new.out) (sym is)
    (stopped_in_step c.frames.invariant.so (λ f tree x h. CalledAt g.F.FnMut f tree (Err x) h) c.advance.new.out
    c.in_err-advance.field-0.0 (c.in_err-advance.ensures {u = tt}).error))

pub frames-preserved-in-Visited : goal.frames-preserved-in-Visited
frames-preserved-in-Visited g c =
    let so = c.frames.invariant.so in
    let ok = (rw c.in-Visited.is at (c.in_ok-advance.ensures {u = tt}).emitted) in
    record {
      so = under_way_visited so c.advance.new.out c.advance.new.pairs.items c.advance.new.frame c.advance.ensures.node ok.0 ok.1 ok.2 ok.3 ok.4;
      callable = callable_after_folds _ (λ f p h. CalledAt g.F.FnMut f p.1 (Ok p.0) h) c.frames.out ok.0 c.advance.new.out ok.3 c.frames.invariant.callable;
    }

pub returns-in_err-begun-in-Begins-clause-error : goal.returns-in_err-begun-in-Begins-clause-error
returns-in_err-begun-in-Begins-clause-error g c =
    let so = c.frames.invariant.so in
    let ok = (rw c.in-Begins.is at (c.in_ok-advance.ensures {u = tt}).emitted) in
    if_err_weaken c.from_residual-in_err-begun-in-Begins.result _ _ c.from_residual-in_err-begun-in-Begins.ensures.1
    (memory_before_begun so c.advance.new.out c.advance.new.pairs.items c.advance.new.frame c.advance.ensures.node ok.0 ok.1 ok.2 ok.3
    (λ f tree x h. CalledAt g.F.FnMut f tree (Err x) h) c.in-Begins.inner ok.4)

pub returns-in_err-wait-in-Begins-clause-error : goal.returns-in_err-wait-in-Begins-clause-error
returns-in_err-wait-in-Begins-clause-error g c =
    let so = c.frames.invariant.so in
    let ok = (rw c.in-Begins.is at (c.in_ok-advance.ensures {u = tt}).emitted) in
    if_err_weaken c.from_residual-in_err-wait-in-Begins.result _ _ c.from_residual-in_err-wait-in-Begins.ensures.1
    (memory_before_begun so c.advance.new.out c.advance.new.pairs.items c.advance.new.frame c.advance.ensures.node ok.0 ok.1 ok.2 ok.3
    (λ f tree x h. CalledAt g.F.FnMut f tree (Err x) h) c.in-Begins.inner ok.4)

pub frames-preserved-in-Continue-branch-5 : goal.frames-preserved-in-Continue-branch-5
frames-preserved-in-Continue-branch-5 g c =
    let so = c.frames.invariant.so in
    let ok = (rw c.in-Begins.is at (c.in_ok-advance.ensures {u = tt}).emitted) in
    let begun = c.in_ok-begun-in-Begins.ensures {u = tt} in
    let waits = c.in_ok-wait-in-Begins.ensures {u = tt} in
    let come = subst (λ x. HasEmitted x [] [] 0) (sym waits.begun) begun.come in record {
      so = under_way_of_equal (sym (ap reverse waits.waits ∙ reverse_push c.frames.above.items c.advance.new.frame))
          (under_way_begun so c.advance.new.out c.advance.new.pairs.items c.advance.new.frame c.advance.ensures.node ok.0 ok.1 ok.2 ok.3
          c.in-Begins.inner ok.4 c.wait.new.frame (ap (λ (x : Frame). x.node.now) waits.begun ∙ begun.node) come);
      callable = callable_after_folds _ (λ f p h. CalledAt g.F.FnMut f p.1 (Ok p.0) h) c.frames.out ok.0 c.advance.new.out ok.3 c.frames.invariant.callable;
    }

pub frames-smaller-in-Continue-branch-5 : goal.frames-smaller-in-Continue-branch-5
frames-smaller-in-Continue-branch-5 g c =
    let begun = c.in_ok-begun-in-Begins.ensures {u = tt} in
    let waits = c.in_ok-wait-in-Begins.ensures {u = tt} in
    let lighter = (rw c.in-Begins.is at (c.in_ok-advance.ensures {u = tt}).lighter) in
    omega (
      arith,
      lighter,
      ap frames_weight waits.waits,
      frames_weight_pop c.frames.above.items c.advance.new.frame,
      ap frame_weight waits.begun,
      begun.weight,
    )

pub into_tree-requires : goal.into_tree-requires
into_tree-requires g c =
    let so = c.frames.invariant.so in
    let ok = (rw c.in-Ends.is at (c.in_ok-advance.ensures {u = tt}).emitted) in
    let come = ok.4 so.qs so.us so.n so.come in
    come.0.in_step.shares_base

pub returns-in_err-tree-in-Ends-clause-error : goal.returns-in_err-tree-in-Ends-clause-error
returns-in_err-tree-in-Ends-clause-error g c =
    let so = c.frames.invariant.so in
    let ok = (rw c.in-Ends.is at (c.in_ok-advance.ensures {u = tt}).emitted) in
    let come = ok.4 so.qs so.us so.n so.come in
    let none : c.frames.above.items ≡ [] = nil_of_length c.frames.above.items (omega (arith, (c.in_default.ensures {u = tt}).cases.0, c.frames.above.ok.0)) in
    let way = under_way_ended so c.advance.new.out c.advance.new.pairs.items c.advance.new.frame c.advance.ensures.node ok.0 ok.1 ok.2 ok.3 ok.4 in
    let all = under_way_of_equal (ap reverse none) way in
    if_err_weaken c.from_residual-in_err-tree-in-Ends.result _ _ c.from_residual-in_err-tree-in-Ends.ensures.1
    (memory_of_ended all come.1 (λ f tree x h. CalledAt g.F.FnMut f tree (Err x) h))

pub returns-in_default-clause-emitted : goal.returns-in_default-clause-emitted
returns-in_default-clause-emitted g c =
    let so = c.frames.invariant.so in
    let ok = (rw c.in-Ends.is at (c.in_ok-advance.ensures {u = tt}).emitted) in
    let come = ok.4 so.qs so.us so.n so.come in
    let none : c.frames.above.items ≡ [] = nil_of_length c.frames.above.items (omega (arith, (c.in_default.ensures {u = tt}).cases.0, c.frames.above.ok.0)) in
    let way = under_way_ended so c.advance.new.out c.advance.new.pairs.items c.advance.new.frame c.advance.ensures.node ok.0 ok.1 ok.2 ok.3 ok.4 in
    let all = under_way_of_equal (ap reverse none) way in
    let root = c.args.node.now in
    let made = (c.in_ok-tree-in-Ends.ensures {u = tt}).tree in (
      all.qs,
      all.n,
      subst (λ t. EmitsBelow (dirs_of root) (bases_of root) all.qs t all.n) (sym made) (emits_of_ended all come.1),
      counted_of_ended all come.1,
      adds_of_ended all come.1,
      called_of_ended all come.1,
    )

pub returns-in_default-clause-storable : goal.returns-in_default-clause-storable
returns-in_default-clause-storable g c =
    let so = c.frames.invariant.so in
    let ok = (rw c.in-Ends.is at (c.in_ok-advance.ensures {u = tt}).emitted) in
    let come = ok.4 so.qs so.us so.n so.come in
    let none : c.frames.above.items ≡ [] = nil_of_length c.frames.above.items (omega (arith, (c.in_default.ensures {u = tt}).cases.0, c.frames.above.ok.0)) in
    let way = under_way_ended so c.advance.new.out c.advance.new.pairs.items c.advance.new.frame c.advance.ensures.node ok.0 ok.1 ok.2 ok.3 ok.4 in
    let all = under_way_of_equal (ap reverse none) way in
    subst IsStorable (sym (c.in_ok-tree-in-Ends.ensures {u = tt}).tree) (storable_of_ended c.advance.new.frame come.1 all.qs all.us all.n all.come)

pub resume-requires-clause-callable : goal.resume-requires-clause-callable
resume-requires-clause-callable g c =
    let ok = (rw c.in-Ends.is at (c.in_ok-advance.ensures {u = tt}).emitted) in
    callable_after_folds _ (λ f p h. CalledAt g.F.FnMut f p.1 (Ok p.0) h) c.frames.out ok.0 c.advance.new.out ok.3 c.frames.invariant.callable

pub resume-requires-clause-waits : goal.resume-requires-clause-waits
resume-requires-clause-waits g c =
    let so = c.frames.invariant.so in
    let ok = (rw c.in-Ends.is at (c.in_ok-advance.ensures {u = tt}).emitted) in
    let all = under_way_of_equal (ap reverse c.in-Some.ensures.items ∙ reverse_push c.pop.new.self.items c.in-Some.parent)
    (under_way_ended so c.advance.new.out c.advance.new.pairs.items c.advance.new.frame c.advance.ensures.node ok.0 ok.1 ok.2 ok.3 ok.4) in
    waits_of_parent all

pub resume-requires-clause-come : goal.resume-requires-clause-come
resume-requires-clause-come g c =
    let so = c.frames.invariant.so in
    let ok = (rw c.in-Ends.is at (c.in_ok-advance.ensures {u = tt}).emitted) in
    let come = ok.4 so.qs so.us so.n so.come in
    (so.qs ++ ok.0, so.us ++ ok.1, so.n, come.0)

pub resume-requires-clause-ended : goal.resume-requires-clause-ended
resume-requires-clause-ended g c =
    let so = c.frames.invariant.so in
    let ok = (rw c.in-Ends.is at (c.in_ok-advance.ensures {u = tt}).emitted) in
    let come = ok.4 so.qs so.us so.n so.come in
    come.1

pub returns-in_err-resume-in-Ends-clause-error : goal.returns-in_err-resume-in-Ends-clause-error
returns-in_err-resume-in-Ends-clause-error g c =
    let so = c.frames.invariant.so in
    let ok = (rw c.in-Ends.is at (c.in_ok-advance.ensures {u = tt}).emitted) in
    let all = under_way_of_equal (ap reverse c.in-Some.ensures.items ∙ reverse_push c.pop.new.self.items c.in-Some.parent)
    (under_way_ended so c.advance.new.out c.advance.new.pairs.items c.advance.new.frame c.advance.ensures.node ok.0 ok.1 ok.2 ok.3 ok.4) in
    if_err_weaken c.from_residual-in_err-resume-in-Ends.result _ _ c.from_residual-in_err-resume-in-Ends.ensures.1
    (λ error is. subst (IsWriteError (λ f p h. CalledAt g.F.FnMut f p.1 (Ok p.0) h) (λ f tree x h. CalledAt g.F.FnMut f tree (Err x) h)
    (EmitsAt c.args.node.now) c.args.out.now c.resume.new.out) (sym is)
    (stopped_in_resume all (λ f tree x h. CalledAt g.F.FnMut f tree (Err x) h) c.resume.new.out
    c.in_err-resume-in-Ends.field-0.0 (c.in_err-resume-in-Ends.ensures {u = tt}).error))

pub frames-preserved : goal.frames-preserved
frames-preserved g c =
    let so = c.frames.invariant.so in
    let ok = (rw c.in-Ends.is at (c.in_ok-advance.ensures {u = tt}).emitted) in
    let all = under_way_of_equal (ap reverse c.in-Some.ensures.items ∙ reverse_push c.pop.new.self.items c.in-Some.parent)
    (under_way_ended so c.advance.new.out c.advance.new.pairs.items c.advance.new.frame c.advance.ensures.node ok.0 ok.1 ok.2 ok.3 ok.4) in
    let done = (c.in_ok-resume-in-Ends.ensures {u = tt}).emitted in record {
      so = under_way_resumed all c.resume.new.out c.resume.new.pairs.items c.resume.new.saved c.resume.new.parent c.resume.ensures.node
          done.0 done.1 done.2 done.3 done.4 done.5;
      callable = callable_after_folds _ (λ f p h. CalledAt g.F.FnMut f p.1 (Ok p.0) h) c.advance.new.out done.0 c.resume.new.out done.4
          (callable_after_folds _ (λ f p h. CalledAt g.F.FnMut f p.1 (Ok p.0) h) c.frames.out ok.0 c.advance.new.out ok.3 c.frames.invariant.callable);
    }

pub frames-smaller : goal.frames-smaller
frames-smaller g c =
    let resumed = (c.in_ok-resume-in-Ends.ensures {u = tt}).lighter in
    omega (arith, resumed, frames_weight_pop c.pop.new.self.items c.in-Some.parent, ap frames_weight c.in-Some.ensures.items)
