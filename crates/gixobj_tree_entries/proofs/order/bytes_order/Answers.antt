use Rattle.std.proofs.Common.{arith, ◌-◌, ◌∙◌, length, refl, sym}
use Rattle.gixobj_tree_entries.proofs.Blocks.{take_add_eq, slice_cmp_next_block, slice_cmp_last_block}
use Rattle.gixobj_tree_entries.proofs.EightBytes.{equal_of_test}
use Rattle.gixobj_tree_entries.proofs.order.bytes_order.Goals as goal

pub returns : goal.returns
returns c =
    let alike = take_add_eq 0 4 c.args.left.now c.args.right.now refl
    (sym c.four_order-prefixes.ensures ∙ equal_of_test c.four_order-prefixes.result (sym c.is_ne.ensures ∙ c.if-is_ne.false)) in
    c.four_order.ensures ∙ slice_cmp_next_block 4 (length c.args.left.now - 4) c.args.left.now c.args.right.now
    ∙ slice_cmp_last_block (length c.args.left.now - 4) 4 4 c.args.left.now c.args.right.now
    (omega (arith, c.if-len-lt4.false)) (omega (arith, c.if-len-lt4.false, c.requires)) (omega (arith, c.if-len-ge8.false)) alike
