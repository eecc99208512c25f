use Rattle.std.proofs.Common.{arith, ◌-◌, ◌∙◌, length, refl, sym}
use Rattle.gixobj_tree_entries.proofs.Blocks.{take_add_eq, slice_cmp_next_block, slice_cmp_last_block}
use Rattle.gixobj_tree_entries.proofs.EightBytes.{equal_of_test}
use Rattle.gixobj_tree_entries.proofs.order.short_order.Goals as goal

pub returns : goal.returns
returns c =
    let alike = take_add_eq 0 2 c.args.left.now c.args.right.now refl
    (sym c.two_order-firsts.ensures ∙ equal_of_test c.two_order-firsts.result (sym c.is_ne.ensures ∙ c.if-is_ne.false)) in
    c.two_order.ensures ∙ slice_cmp_next_block 2 (length c.args.left.now - 2) c.args.left.now c.args.right.now
    ∙ slice_cmp_last_block (length c.args.left.now - 2) 2 2 c.args.left.now c.args.right.now
    (omega (arith, c.if-len-lt2.false)) (omega (arith, c.if-len-lt2.false, c.requires.same_length)) (omega (arith, c.requires.max_len)) alike
