use Rattle.std.proofs.Common.{arith, eqb, w8}
use Rattle.std.proofs.lemmas.Simd.{bitmask_splat, length-chunk}
use Rattle.std.specs.Simd.Lanes.{chunk}
use Rattle.gixobj_fsck_trees.proofs.NearBytes.{free_block, zero_of_test}
use Rattle.gixobj_fsck_trees.proofs.near.lacks_byte.Goals as goal

pub returns : goal.returns
returns c = λ is.
    let name = c.args.name.now in
    let bits = bitmask_splat w8 eqb (chunk c.args.from 8 name) 8 c.args.byte (length-chunk c.args.from 8 name c.requires) (omega arith) in
    free_block c.args.byte name c.args.from c.requires (zero_of_test _ _ bits is)
