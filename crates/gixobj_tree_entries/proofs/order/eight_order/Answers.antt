use Rattle.std.proofs.Common.{arith, rules, ◌≡◌, ◌∙◌}
use Rattle.std.specs.Int.{from_be_bytes, w64}
use Rattle.std.specs.Ordering.{nat_cmp}
use Rattle.std.specs.Prelude.{take}
use Rattle.gixobj_tree_entries.proofs.EightBytes.{nat_cmp_of_eight_bytes}
use Rattle.gixobj_tree_entries.proofs.order.eight_order.Goals as goal

pub returns : goal.returns
returns c =
    let numbers : c.cmp.result ≡ nat_cmp (from_be_bytes w64 (take 8 c.args.left.now)) (from_be_bytes w64 (take 8 c.args.right.now)) = search rules in
    numbers ∙ nat_cmp_of_eight_bytes c.args.left.now c.args.right.now (λ k. omega (arith, c.type_inv.left k))
    (λ k. omega (arith, c.type_inv.right k)) c.requires.left
    c.requires.right
