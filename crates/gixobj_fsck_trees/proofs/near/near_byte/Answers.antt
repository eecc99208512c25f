use Rattle.std.proofs.Common.{◌<◌, ap, arith, eqb, take, w8, ◌∙◌}
use Rattle.std.proofs.lemmas.List.{length-take-le}
use Rattle.std.proofs.lemmas.Simd.{bitmask_splat, trailing_mask_l}
use Rattle.std.specs.Int.{trailing_zeros, w64}
use Rattle.gixobj_fsck_trees.proofs.NearBytes.{bit_of_nonzero, byte_bits, splits_within_block}
use Rattle.gixobj_fsck_trees.proofs.near.near_byte.Goals as goal

pub returns : goal.returns
returns c =
    let byte = c.args.byte in
    let prefix = take 32 c.args.input.now in
    let long = length-take-le 32 c.args.input.now c.requires in
    let bits = bitmask_splat w8 eqb prefix 32 byte long (omega arith) in
    let some : 0 < byte_bits byte prefix = bit_of_nonzero _ _ bits c.if-marks-eq0.false in
    splits_within_block byte c.args.input.now _ some
    (ap (trailing_zeros w64) bits ∙ trailing_mask_l (λ x. eqb x byte) 64 prefix (omega (arith, long)) some)
