use Rattle.std.proofs.Common.{◌<◌, ap, arith, eqb, sym, take, w8, ◌∙◌}
use Rattle.std.proofs.lemmas.List.{length-take-le}
use Rattle.std.proofs.lemmas.Simd.{bitmask_splat, trailing_mask_l}
use Rattle.std.specs.Int.{trailing_zeros, w64}
use Rattle.gixobj_tree_entries.proofs.NearZero.{splits_at_zero_within_block, byte_free_of_no_bits, len_pos_of_bit, zero_bits}
use Rattle.gixobj_tree_entries.proofs.decode.near_zero.Goals as goal

pub returns-then-marks-eq0-clause-none : goal.returns-then-marks-eq0-clause-none
returns-then-marks-eq0-clause-none c =
    let prefix = take 32 c.args.input.now in
    let long = length-take-le 32 c.args.input.now c.requires in
    byte_free_of_no_bits prefix (sym (bitmask_splat w8 eqb prefix 32 0 long (omega arith)) ∙ c.if-marks-eq0.true)

pub returns-clause-found : goal.returns-clause-found
returns-clause-found c =
    let prefix = take 32 c.args.input.now in
    let long = length-take-le 32 c.args.input.now c.requires in
    let bits = bitmask_splat w8 eqb prefix 32 0 long (omega arith) in
    let some : 0 < zero_bits prefix = len_pos_of_bit _ _ bits c.if-marks-eq0.false in
    splits_at_zero_within_block c.args.input.now _ some (ap (trailing_zeros w64) bits ∙ trailing_mask_l (λ x. eqb x 0) 64 prefix (omega (arith, long)) some)
