use Rattle.std.proofs.Common.{◌∙◌, ◌<◌, List, ap, arith, get_or, length}
use Rattle.std.specs.declared.alloc.Global.{Global}
use Rattle.std.specs.declared.vec.Vec.{Vec}
use Rattle.std.proofs.lemmas.List.{with_items_is}
use Rattle.gixobj_editor_write.specs.Moves.{moved_on, moved_out}
use Rattle.gixobj_editor_open.specs.Nested.{parts}
use Rattle.gixobj_editor_open.specs.declared.open.Child.{Child}
use Rattle.gixobj_editor_write.proofs.Moves.{moved_on_more, moved_out_more, non_empty_more}
use Rattle.gixobj_editor_write.proofs.moving.move_on_in_pieces.Goals as goal

pub loop-piece-preserved : goal.loop-piece-preserved
loop-piece-preserved c =
    let so = c.loop-piece.invariant in
    let ps = c.loop-piece.pieces in
    let i = c.loop-piece.piece-index in
    let d = c.piece-item.result in
    let next = c.loop-piece.next in
    let p : Vec Child Global = get_or ps i d in
    let new = c.move_on_in_piece-next.new.children in
    let low : i < length ps = omega (arith, c.loop-piece-test.true, c.loop-piece.auto.pieces) in
    let is = ap parts (with_items_is p new (c.move_on_in_piece-next.auto.children ∙ c.deref_mut.ensures.len))
    ∙ c.move_on_in_piece-next.ensures.moved ∙ ap (λ (cs : List Child). moved_on next (parts cs)) c.deref_mut.ensures.value in
    let after_is = c.move_on_in_piece-next.ensures.last ∙ ap (λ (cs : List Child). moved_out next (parts cs)) c.deref_mut.ensures.value in
    record {
      moved = moved_on_more ps i _ d next c.move_on_in_piece-next.result low is after_is ∙ so.moved;
      last = moved_out_more ps i _ d next c.move_on_in_piece-next.result low is after_is ∙ so.last;
      filled = λ all. non_empty_more ps i _ d next c.move_on_in_piece-next.result low is after_is (so.filled all);
    }
