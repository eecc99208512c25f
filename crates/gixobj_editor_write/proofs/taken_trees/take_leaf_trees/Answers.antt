use Rattle.std.proofs.Common.{arith, ◌∙◌, ◌+◌, ◌++◌, length, length-append, sym, ap, append_assoc}
use Rattle.std.specs.Prelude.{reverse}
use Rattle.std.specs.declared.alloc.Global.{Global}
use Rattle.std.specs.declared.vec.Vec.{Vec}
use Rattle.std.proofs.lemmas.List.{length-reverse, reverse-append}
use Rattle.gixobj_editor_entries.specs.Pieces.{joined}
use Rattle.gixobj_editor_open.specs.declared.open.Child.{Child}
use Rattle.gixobj_editor_open.specs.Nested.{below, parts}
use Rattle.gixobj_editor_open.specs.LeafTrees.{leaf_trees}
use Rattle.gixobj_editor_open.proofs.LeafTrees.{parted_of_append}
use Rattle.gixobj_editor_open.proofs.Pieces.{joined_snoc}
use Rattle.gixobj_editor_write.proofs.taken_trees.take_leaf_trees.Goals as goal

pub take_from_piece-requires : goal.take_from_piece-requires
take_from_piece-requires c =
    let so = c.loop-piece.invariant in
    let first = c.args.children.first.items in
    let piece = c.in-Some.piece in
    let new = joined (λ (p : Vec Child Global). p.items) first c.pop.new.self.items in
    let off = parted_of_append _ new piece.items (joined_snoc first c.loop-piece.more.items c.pop.new.self.items piece c.in-Some.ensures.items) so.apart in
    let lens = ap length off.trees ∙ length-append (leaf_trees (below (parts new))) (leaf_trees (below (parts piece.items))) in
    record { apart = off.last_apart; has_capacity = omega (arith, lens, so.room) }

pub loop-piece-preserved : goal.loop-piece-preserved
loop-piece-preserved c =
    let so = c.loop-piece.invariant in
    let first = c.args.children.first.items in
    let piece = c.in-Some.piece in
    let new = joined (λ (p : Vec Child Global). p.items) first c.pop.new.self.items in
    let before = c.loop-piece.trees.items in
    let off = parted_of_append _ new piece.items (joined_snoc first c.loop-piece.more.items c.pop.new.self.items piece c.in-Some.ensures.items) so.apart in
    let remaining = leaf_trees (below (parts new)) in
    let taken = leaf_trees (below (parts piece.items)) in
    let lens = ap length off.trees ∙ length-append remaining taken in
    let grown = ap length c.take_from_piece.ensures.items ∙ length-append before (reverse taken) ∙ ap (λ n. length before + n) (length-reverse taken) in
    record {
      taken = ap (λ l. l ++ reverse remaining) c.take_from_piece.ensures.items ∙ append_assoc before (reverse taken) (reverse remaining)
          ∙ ap (λ l. before ++ l) (sym (reverse-append remaining taken) ∙ ap reverse (sym off.trees)) ∙ so.taken;
      room = omega (arith, lens, grown, so.room, c.take_from_piece.ensures.capacity, c.take_from_piece.new.trees.ok.0, c.loop-piece.trees.ok.0);
      apart = off.apart;
      capacity = omega (arith, so.capacity, c.take_from_piece.ensures.capacity);
    }
