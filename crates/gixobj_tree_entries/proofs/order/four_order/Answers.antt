use Rattle.std.proofs.Common.{arith, rules, ◌≡◌, ◌∙◌}
use Rattle.std.specs.Int.{from_be_bytes, w32}
use Rattle.std.specs.Ordering.{nat_cmp}
use Rattle.std.specs.Prelude.{take}
use Rattle.gixobj_tree_entries.proofs.EightBytes.{nat_cmp_of_four_bytes}
use Rattle.gixobj_tree_entries.proofs.order.four_order.Goals as goal

pub returns : goal.returns
returns c =
    let numbers : c.cmp.result ≡ nat_cmp (from_be_bytes w32 (take 4 c.args.left.now)) (from_be_bytes w32 (take 4 c.args.right.now)) = search rules in
    numbers ∙ nat_cmp_of_four_bytes c.args.left.now c.args.right.now (λ k. omega (arith, c.type_inv.left k))
    (λ k. omega (arith, c.type_inv.right k)) c.requires.left
    c.requires.right
