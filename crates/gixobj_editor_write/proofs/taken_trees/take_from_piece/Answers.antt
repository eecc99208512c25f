use Rattle.std.proofs.Common.{arith, ◌≡◌, ◌∙◌, ◌+◌, ◌++◌, length, length-append, sym, ap, append_assoc}
use Rattle.std.specs.Prelude.{reverse}
use Rattle.std.proofs.lemmas.List.{length-reverse, reverse-append}
use Rattle.gixobj_editor_open.specs.Nested.{Opened, below, parts}
use Rattle.gixobj_editor_open.specs.LeafTrees.{leaf_trees}
use Rattle.gixobj_editor_open.proofs.LeafTrees.{taken_off_of_parts}
use Rattle.gixobj_editor_write.proofs.taken_trees.take_from_piece.Goals as goal

pub take_leaf_tree-requires : goal.take_leaf_tree-requires
take_leaf_tree-requires c =
    let so = c.loop-child.invariant in
    let new = c.pop.new.self.items in
    let child = c.in-Some.child in
    let off = taken_off_of_parts c.loop-child.children.items new child c.in-Some.ensures.items so.apart in
    let same = ap (λ (ds : Opened). length (leaf_trees ds)) c.into_open.ensures in
    let lens = ap length off.last ∙ length-append (leaf_trees (below (parts new))) (leaf_trees child.open) in
    omega (arith, lens, same, so.room)

pub loop-child-preserved : goal.loop-child-preserved
loop-child-preserved c =
    let so = c.loop-child.invariant in
    let new = c.pop.new.self.items in
    let child = c.in-Some.child in
    let before = c.loop-child.trees.items in
    let off = taken_off_of_parts c.loop-child.children.items new child c.in-Some.ensures.items so.apart in
    let taken : c.take_leaf_tree.new.trees.items ≡ before ++ reverse (leaf_trees child.open) =
    c.take_leaf_tree.ensures.items ∙ ap (λ (ds : Opened). before ++ reverse (leaf_trees ds)) c.into_open.ensures in
    let lens = ap length off.last ∙ length-append (leaf_trees (below (parts new))) (leaf_trees child.open) in
    let grown = ap length taken ∙ length-append before (reverse (leaf_trees child.open)) ∙ ap (λ n. length before + n)
    (length-reverse (leaf_trees child.open)) in
    record {
      taken = ap (λ l. l ++ reverse (leaf_trees (below (parts new)))) taken
          ∙ append_assoc before (reverse (leaf_trees child.open)) (reverse (leaf_trees (below (parts new))))
          ∙ ap (λ l. before ++ l) (sym (reverse-append (leaf_trees (below (parts new))) (leaf_trees child.open)) ∙ ap reverse (sym off.last))
          ∙ so.taken;
      room = omega (arith, lens, grown, so.room, c.take_leaf_tree.ensures.capacity, c.take_leaf_tree.new.trees.ok.0, c.loop-child.trees.ok.0);
      apart = off.apart;
      capacity = omega (arith, so.capacity, c.take_leaf_tree.ensures.capacity);
    }
