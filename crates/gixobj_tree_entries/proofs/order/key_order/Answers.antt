use Rattle.std.proofs.Common.{◌≡◌, ◌∙◌, length, rules, sym}
use Rattle.std.specs.Ordering.{nat_cmp, ordering_then}
use Rattle.gixobj_tree_entries.specs.KeyOrder.{key_of, name_cmp}
use Rattle.gixobj_tree_entries.proofs.NameKeys.{key_cmp_eq_name_cmp_then_len}
use Rattle.gixobj_tree_entries.proofs.order.key_order.Goals as goal

pub returns : goal.returns
returns c =
    let left = c.args.left.now in
    let right = c.args.right.now in
    let names : c.then.result ≡ ordering_then (name_cmp left c.args.left_is_tree right c.args.right_is_tree)
    (nat_cmp (length (key_of left c.args.left_is_tree)) (length (key_of right c.args.right_is_tree))) = search rules in
    names ∙ sym (key_cmp_eq_name_cmp_then_len left c.args.left_is_tree right c.args.right_is_tree)
