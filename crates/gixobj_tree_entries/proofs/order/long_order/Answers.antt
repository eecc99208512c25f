use Rattle.std.proofs.Common.{arith, ◌-◌, ◌∙◌, length, sym}
use Rattle.gixobj_tree_entries.proofs.Blocks.{take_add_eq, slice_cmp_drop_take, slice_cmp_next_block, slice_cmp_last_block}
use Rattle.gixobj_tree_entries.proofs.EightBytes.{not_equal_of_test, equal_of_test}
use Rattle.gixobj_tree_entries.proofs.order.long_order.Goals as goal

pub returns-then-is_ne : goal.returns-then-is_ne
returns-then-is_ne c =
    let part = c.eight_order-part.ensures ∙ slice_cmp_next_block 8 c.loop-at.at c.args.left.now c.args.right.now in
    part
    ∙ slice_cmp_drop_take c.loop-at.at 8 c.args.left.now c.args.right.now (omega (arith, c.loop-at-test.true))
    (omega (arith, c.loop-at-test.true, c.requires.same_length))
    c.loop-at.invariant (λ tie. not_equal_of_test c.eight_order-part.result (c.if-is_ne.ensures {u = tt}) (part ∙ tie))

pub loop-at-preserved : goal.loop-at-preserved
loop-at-preserved c =
    let part = c.eight_order-part.ensures ∙ slice_cmp_next_block 8 c.loop-at.at c.args.left.now c.args.right.now in
    take_add_eq c.loop-at.at 8 c.args.left.now c.args.right.now c.loop-at.invariant
    (sym part ∙ equal_of_test c.eight_order-part.result (sym c.is_ne.ensures ∙ c.if-is_ne.false))

pub returns : goal.returns
returns c =
    c.eight_order.ensures ∙ slice_cmp_next_block 8 (length c.args.left.now - 8) c.args.left.now c.args.right.now
    ∙ slice_cmp_last_block (length c.args.left.now - 8) 8 c.loop-at.at c.args.left.now c.args.right.now
    (omega (arith, c.requires.min_len)) (omega (arith, c.requires.min_len, c.requires.same_length)) (omega (arith, c.loop-at-test.false)) c.loop-at.invariant
