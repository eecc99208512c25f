use Rattle.std.proofs.Common.{arith, ◌∙◌}
use Rattle.gixobj_tree_entries.proofs.NameKeys.{name_cmp_eq_key_cmp}
use Rattle.gixobj_tree_entries.proofs.EightBytes.{not_equal_of_test, name_cmp_of_prefix_cmp}
use Rattle.gixobj_tree_entries.proofs.order.name_order.Goals as goal

pub returns-then-is_ne-clause-rule : goal.returns-then-is_ne-clause-rule
returns-then-is_ne-clause-rule c =
    let prefixes = c.four_order-prefixes.ensures in
    prefixes
    ∙ name_cmp_of_prefix_cmp 4 c.args.left.now c.args.right.now c.args.left_is_tree c.args.right_is_tree
    (omega (arith, c.if-left-ge4.true)) (omega (arith, c.if-right-ge4.true))
    (λ tie. not_equal_of_test c.four_order-prefixes.result (c.if-is_ne.ensures {u = tt}) (prefixes ∙ tie))

pub returns-then-is_ne-clause-by_keys : goal.returns-then-is_ne-clause-by_keys
returns-then-is_ne-clause-by_keys c =
    λ left_is_name right_is_name. returns-then-is_ne-clause-rule c ∙ name_cmp_eq_key_cmp c.args.left.now c.args.left_is_tree c.args.right.now
    c.args.right_is_tree
    left_is_name right_is_name

pub returns-clause-by_keys : goal.returns-clause-by_keys
returns-clause-by_keys c =
    λ left_is_name right_is_name. c.full_order.ensures
    ∙ name_cmp_eq_key_cmp c.args.left.now c.args.left_is_tree c.args.right.now c.args.right_is_tree left_is_name right_is_name
