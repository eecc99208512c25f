-- Settling keeps what is open, and each call settles fewer directories: the measures and loop steps of `settle_all`,
-- `settle_pieces` and `Children::settle`, which call each other.
use Rattle.std.proofs.Common.{◌∙◌, ◌<◌, arith, List, length, ap, get_or, sym}
use Rattle.std.specs.List.{flat_map}
use Rattle.std.specs.declared.alloc.Global.{Global}
use Rattle.std.specs.declared.vec.Vec.{Vec}
use Rattle.std.proofs.lemmas.List.{with_items_is}
use Rattle.bstr.specs.Owned.{bstring_bytes}
use Rattle.gixobj_editor_open.specs.Decreases.{length-below_append}
use Rattle.gixobj_editor_open.specs.Nested.{Opened, Part, below, part, parts}
use Rattle.gixobj_editor_open.specs.declared.open.Child.{Child}
use Rattle.gixobj_editor_open.proofs.Levels.{parts_set_same}
use Rattle.gixobj_editor_open.proofs.Pieces.{are_filled_set, child_size_le, parts_flat_map_set, piece_size_le}
use Rattle.gixobj_editor_open.proofs.+settling.Goals as goal

pub leaf_trees::settle_all-settle-requires : goal.leaf_trees::settle_all-settle-requires
leaf_trees::settle_all-settle-requires t c =
    let low : c.loop-child.child-index < length c.loop-child.children = omega (arith, c.loop-child-test.true, c.loop-child.auto.children) in (
      omega (
        arith,
        child_size_le c.loop-child.children c.loop-child.child-index c.child-item.result low c.child-item.is,
        ap (λ (ps : List Part). length (below ps)) c.loop-child.invariant,
        ap (λ (d : Child). length d.open) c.child-item.is,
        c.decreases,
      ),
      tt,
    )

pub leaf_trees::settle_all-loop-child-preserved : goal.leaf_trees::settle_all-loop-child-preserved
leaf_trees::settle_all-loop-child-preserved t c =
    let child = c.child-item.result in
    let here : Child = get_or c.loop-child.children c.loop-child.child-index child in
    parts_set_same c.loop-child.children c.loop-child.child-index child (record { name = here.name; «open» = c.settle.new.self }) c.child-item.is
    (ap (λ (ds : Opened). (bstring_bytes here.name, ds)) c.settle.ensures ∙ ap part (sym c.child-item.is)) ∙ c.loop-child.invariant

pub leaf_trees::settle_pieces-settle_all-requires : goal.leaf_trees::settle_pieces-settle_all-requires
leaf_trees::settle_pieces-settle_all-requires t c =
    let low : c.loop-piece.piece-index < length c.loop-piece.pieces = omega (arith, c.loop-piece-test.true, c.loop-piece.auto.pieces) in (
      omega (
        arith,
        piece_size_le c.loop-piece.pieces c.loop-piece.piece-index c.piece-item.result low c.piece-item.is,
        ap (λ (ps : List Part). length (below ps)) c.loop-piece.invariant.list,
        ap (λ (v : Vec Child Global). length (below (parts v.items))) c.piece-item.is,
        ap (λ (cs : List Child). length (below (parts cs))) c.deref_mut.ensures.value,
        c.decreases,
      ),
      tt,
    )

pub leaf_trees::settle_pieces-loop-piece-preserved : goal.leaf_trees::settle_pieces-loop-piece-preserved
leaf_trees::settle_pieces-loop-piece-preserved t c =
    let so = c.loop-piece.invariant in
    let ps = c.loop-piece.pieces in
    let i = c.loop-piece.piece-index in
    let d = c.piece-item.result in
    let p : Vec Child Global = get_or ps i d in
    let new = c.settle_all.new.children in
    let is = with_items_is p new (c.settle_all.auto.children ∙ c.deref_mut.ensures.len) in
    let same = ap parts is ∙ c.settle_all.ensures ∙ ap parts c.deref_mut.ensures.value in record {
      list = parts_flat_map_set ps i _ d same ∙ so.list;
      filled = λ all. are_filled_set ps i _ d same (so.filled all);
    }

pub open::Children::settle-settle_all-requires : goal.open::Children::settle-settle_all-requires
open::Children::settle-settle_all-requires t c = (
  omega (
    arith,
    length-below_append c.args.self.now.first.items (flat_map (λ p. p.items) c.args.self.now.more.items),
    ap (λ (cs : List Child). length (below (parts cs))) c.deref_mut.ensures.value,
    c.decreases,
  ),
  tt,
)

pub open::Children::settle-settle_pieces-requires : goal.open::Children::settle-settle_pieces-requires
open::Children::settle-settle_pieces-requires t c = (
  omega (
    arith,
    length-below_append c.args.self.now.first.items (flat_map (λ p. p.items) c.args.self.now.more.items),
    ap (λ (ps : List (Vec Child Global)). length (below (parts (flat_map (λ (p : Vec Child Global). p.items) ps)))) c.deref_mut-2.ensures.value,
    c.decreases,
  ),
  tt,
)
